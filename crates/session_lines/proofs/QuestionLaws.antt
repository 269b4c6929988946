-- A question that is answered at once: its line says the command, and its reply is the step.
use Rattle.std.proofs.Common.{◌≡◌, ◌≢◌, ℕ, zero, suc, ◌-◌, Bool, true, List, [], ◌∷◌, ◌++◌, length, take, Some, None, refl, sym, ap, subst, ◌∙◌}
use Rattle.std.specs.Prelude.{codes, nat_lt, slice_index, if◌then◌else◌, is_none, unwrap_or, Result, Ok}
use Rattle.std.specs.Str.{IsUtf8}
use Rattle.std.specs.List.{list_all}
use Rattle.std.proofs.lemmas.Bool.{ne_eqb}
use Rattle.std.proofs.lemmas.Str.{IsUtf8-append}
use Rattle.fact_paths.specs.Cuts.{Lacks}
use Rattle.fact_paths.specs.Names.{IsName}
use Rattle.fact_paths.specs.declared.fact_path.FactPath.TheVariants as facts
use Rattle.fact_paths.specs.declared.slot_path.SlotPath.TheVariants.{Global}
use Rattle.fact_paths.proofs.CutLaws.{Lacks-append}
use Rattle.fact_paths.proofs.NameLaws.{name_lacks, passed_lack}
use Rattle.value_text.proofs.SpelledTexts.{name_is}
use Rattle.script_lines.specs.Commands.{SpellsCommand, command_text, without_return}
use Rattle.script_lines.specs.Lines.{whole}
use Rattle.script_lines.specs.Parsing.{Heard, nothing, bad_line, command, heard_in, SaysExactly}
use Rattle.script_lines.specs.declared.command.Command.{Command}
use Rattle.script_lines.proofs.Bytes.{ascii_is_utf8}
use Rattle.script_lines.proofs.CommandLaws.{has_reply, heard_exactly, one_command}
use Rattle.dict_source.specs.Finding.{find_path}
use Rattle.evaluation.specs.Results.{slot}
use Rattle.graph_session.specs.Refusals.{decided, first_of, when}
use Rattle.graph_session.specs.Rules.{Rules, tree_of}
use Rattle.graph_session.specs.SessionView.{SessionState}
use Rattle.graph_session.specs.Step as session
use Rattle.graph_session.specs.declared.reply.Refusal.{Refusal}
use Rattle.graph_session.specs.declared.reply.Refusal.TheVariants.{UnknownFact}
use Rattle.graph_session.specs.declared.reply.Reply.{Reply}
use Rattle.dict_source.specs.Finding.{IsGlobalSpelled}
use Rattle.session_lines.specs.declared.question.Question.{Question}
use Rattle.session_lines.specs.declared.question.Question.TheVariants as questions
use Rattle.session_lines.specs.Questions.{IsReplyAbout, IsReplyAtOnce, command_asking, question_word, reply_asked}
use Rattle.session_lines.specs.Replies.{reply_text}
use Rattle.session_lines.specs.Stepping.{LineState, open_at, step, step_answered, step_heard, step_writing}

-- ---- the line

-- no byte is one that the text lacks
lacks_at : (c : ℕ) → 0 ≢ c → (text : List ℕ) → Lacks c text → (i : ℕ) → slice_index text i ≢ c
lacks_at c other [] lacks i = other
lacks_at c other (b ∷ text) lacks zero = lacks.0
lacks_at c other (b ∷ text) lacks (suc i) = lacks_at c other text lacks.1 i

-- a line that has no byte 13 is read whole
whole_line : (line : List ℕ) → Lacks 13 line → without_return line ≡ line
whole_line line lacks =
    ap (λ t. if t then take (length line - 1) line else line)
    (ne_eqb (slice_index line (length line - 1)) 13 (lacks_at 13 (λ e. absurd cc) line lacks (length line - 1)))

-- the line of a question about `/N`
abbrev line_about : Question → List ℕ → List ℕ
line_about asked name = question_word asked ++ (codes "/" ++ name)

is_text : (asked : Question) (name : List ℕ) → line_about asked name ≡ command_text (command_asking asked (Global name))
is_text questions.Get name = refl
is_text questions.Final name = refl

-- a byte that prints: 13 doesn't
abbrev is_shown : ℕ → Bool
is_shown b = nat_lt 31 b

lacks_behind : (front name : List ℕ) → list_all is_shown front ≡ true → IsName name → Lacks 13 (front ++ name)
lacks_behind front name shown is = Lacks-append 13 front name (passed_lack is_shown 13 refl front shown) (name_lacks 13 refl name is)

lacks_return : (asked : Question) (name : List ℕ) → IsName name → Lacks 13 (line_about asked name)
lacks_return questions.Get name is = lacks_behind (codes "get /") name refl is
lacks_return questions.Final name is = lacks_behind (codes "final /") name refl is

is_utf8_line : (asked : Question) (name : List ℕ) → IsName name → IsUtf8 (line_about asked name)
is_utf8_line questions.Get name is = IsUtf8-append (codes "get /") name (ascii_is_utf8 (codes "get /") refl) (name_is name is)
is_utf8_line questions.Final name is = IsUtf8-append (codes "final /") name (ascii_is_utf8 (codes "final /") refl) (name_is name is)

are_parts : (asked : Question) (name : List ℕ) → IsName name → SpellsCommand (line_about asked name) (command_asking asked (Global name))
are_parts asked name is =
    let line = line_about asked name in
    let all = whole_line line (lacks_return asked name is) in
    by_question asked (subst IsUtf8 (sym all) (is_utf8_line asked name is)) (all ∙ is_text asked name)
  where
    by_question : (q : Question) → IsUtf8 (without_return (line_about asked name)) → without_return (line_about asked name) ≡ command_text (command_asking q (Global name))
        → SpellsCommand (line_about asked name) (command_asking q (Global name))
    by_question questions.Get utf8 text = record { utf8 = utf8; parts = is; text = text }
    by_question questions.Final utf8 text = record { utf8 = utf8; parts = is; text = text }

-- a line that spells a command says it
spelled_says : (line : List ℕ) (c : Command) → SpellsCommand line c → heard_in line ≡ command c
spelled_says line c spelled = by_heard (heard_in line) (heard_exactly line)
  where
    by_heard : (said : Heard) → SaysExactly line said → said ≡ command c
    by_heard nothing silent = absurd (has_reply line c spelled silent)
    by_heard bad_line bad = absurd (bad.form c spelled)
    by_heard (command d) also = ap command (one_command line d c also spelled)

-- the line of a question about `/N` says its command
pub question_heard : (asked : Question) (name : List ℕ) → IsName name → heard_in (line_about asked name) ≡ command (command_asking asked (Global name))
question_heard asked name is = spelled_says (line_about asked name) (command_asking asked (Global name)) (are_parts asked name is)

-- ---- the reply

-- the session's step for a question about a fact that it finds
asked_step : (r : Rules) (s : SessionState) (asked : Question) (name : List ℕ) (n : ℕ) → find_path (tree_of r).facts (facts.Global name) ≡ Some n
    → session.step r s (command_asking asked (Global name)) ≡ Ok (reply_asked asked (slot n 0), s)
asked_step r s questions.Get name n found =
    ap {B = Result (Reply × SessionState) Refusal} (λ o. decided (first_of (when (is_none o) UnknownFact ∷ None ∷ [])) (reply_asked questions.Get (slot (unwrap_or o 0) 0), s)) found
asked_step r s questions.Final name n found =
    ap {B = Result (Reply × SessionState) Refusal} (λ o. decided (first_of (when (is_none o) UnknownFact ∷ None ∷ [])) (reply_asked questions.Final (slot (unwrap_or o 0) 0), s)) found

-- so it is the reply about the path
pub replies_about : (r : Rules) (s : SessionState) (asked : Question) (text : List ℕ) (n : ℕ) (reply : Reply) → IsGlobalSpelled (tree_of r).facts text n → reply ≡ reply_asked asked (slot n 0)
    → IsReplyAbout r s asked text reply
replies_about r s asked text n reply spelled is =
    record {
      name = spelled.name;
      spells = spelled.spells;
      replies = asked_step r s asked spelled.name n spelled.found ∙ ap {B = Result (Reply × SessionState) Refusal} (λ x. Ok (x, s)) (sym is);
    }

-- ---- the step

-- a question changes nothing
answered_step : (r : Rules) (s : LineState) (asked : Question) (name : List ℕ) (reply : Reply)
    → session.step r s.session_state (command_asking asked (Global name)) ≡ Ok (reply, s.session_state)
    → step_heard r s (command (command_asking asked (Global name))) ≡ step_writing s (reply_text r s.session_state reply)
answered_step r s questions.Get name reply is = ap (step_answered r s (command_asking questions.Get (Global name))) is
answered_step r s questions.Final name reply is = ap (step_answered r s (command_asking questions.Final (Global name))) is

-- the step of a line that is answered at once writes the reply
pub step_at_once : (r : Rules) (s : LineState) (line : List ℕ) (reply : Reply) → IsReplyAtOnce r s.session_state line reply
    → step r (open_at s) (whole line) ≡ step_writing s (reply_text r s.session_state reply)
step_at_once r s line reply at =
    let name = at.about.name in
    let text : line ≡ line_about at.asked name = at.asks ∙ ap (λ (t : List ℕ). question_word at.asked ++ t) at.about.spells.1 in
    let says : heard_in line ≡ command (command_asking at.asked (Global name)) = ap heard_in text ∙ question_heard at.asked name at.about.spells.0 in
    ap (step_heard r s) says ∙ answered_step r s at.asked name reply at.about.replies
