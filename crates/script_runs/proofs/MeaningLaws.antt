-- Lines behind lines: what sessions and desks mean by them.
use Rattle.std.proofs.Common.{◌≡◌, true, false, List, [], ◌∷◌, ◌++◌, refl, sym, ap, ◌∙◌, arith, append_assoc}
use Rattle.std.specs.Prelude.{if◌then◌else◌}
use Rattle.script_lines.specs.Joined.{joined}
use Rattle.script_lines.proofs.JoinedLaws.{joined-append}
use Rattle.script_lines.specs.Lines.{ScriptLine}
use Rattle.answers.specs.Answered.{Answered}
use Rattle.dictionary.specs.AcceptedParts.{Named}
use Rattle.graph_session.specs.Rules.{Rules}
use Rattle.session_lines.specs.Stepping.{LineState, State, Step, at_start, open_at, replies, state_after, step, step_line}
use Rattle.session_lines.proofs.AnsweringLaws.{replies-append, state_after-append}
use Rattle.session_lines.proofs.StepLaws.{steps-append}
use Rattle.shared_desk.specs.Desk.{Desk as Defined}
use Rattle.desk_lines.specs.DeskStepping.{DeskState, DeskStep, desk_at_start, desk_line_step, desk_open, desk_replies, desk_state_after, step_party_line}
use Rattle.desk_lines.proofs.AnsweringLaws.{desk_replies-append, desk_state_after-append}
use Rattle.desk_lines.proofs.DeskStepLaws.{desk_steps-append}
use Rattle.script_runs.specs.declared.mode.Mode.{Mode}
use Rattle.script_runs.specs.declared.mode.Mode.TheVariants.{Incremental, Plain, Desk}
use Rattle.script_runs.specs.Meanings.{Behind, IsBeginning, IsQuit, Meaning, meaning_of, of_desk, of_session, silently, texts}

-- ---- behind lines stand others

-- the bytes of the replies
pub texts_behind : (m rest : Meaning) (lines more : List ScriptLine) → Behind m lines rest → texts m (lines ++ more) ≡ texts m lines ++ texts rest more
texts_behind m rest lines more behind = ap joined (behind.replies more) ∙ joined-append (m.replies lines) (rest.replies more)

-- behind more lines
pub behind_on : (m there next : Meaning) (lines more : List ScriptLine) → Behind m lines there → Behind there more next → Behind m (lines ++ more) next
behind_on m there next lines more h k = record {
  replies = λ l.
      ap m.replies (append_assoc lines more l)
      ∙ h.replies (more ++ l)
      ∙ ap (λ t. m.replies lines ++ t) (k.replies l)
      ∙ sym (append_assoc (m.replies lines) (there.replies more) (next.replies l))
      ∙ ap (λ t. t ++ next.replies l) (sym (h.replies more));
  over = λ l. ap m.over (append_assoc lines more l) ∙ h.over (more ++ l) ∙ k.over l;
  answers = λ l. ap m.answers (append_assoc lines more l) ∙ h.answers (more ++ l) ∙ k.answers l;
  steps = λ most l.
      let first = ap (m.steps most) (append_assoc lines more l) ∙ h.steps most (more ++ l) in
      let second = k.steps most l in
      let both = h.steps most more in
      omega (arith, first, second, both);
}

-- behind none
pub behind_none : (m : Meaning) → IsBeginning m → Behind m [] m
behind_none m begins = record {
  replies = λ l. ap (λ t. t ++ m.replies l) (sym begins.replies);
  over = λ l. refl;
  answers = λ l. refl;
  steps = λ most l. let none = begins.steps most in omega (arith, none);
}

-- ---- a session

pub session_behind : (r : Rules) (state : State) (lines : List ScriptLine) → Behind (of_session r state) lines (of_session r (state_after r state lines))
session_behind r state lines = record {
  replies = replies-append r state lines;
  over = λ l. ap (λ (s : State). s.over) (state_after-append r state lines l);
  answers = λ l. ap (λ (s : State). s.standing.session_state.timeline.now) (state_after-append r state lines l);
  steps = λ most l. steps-append most r state lines l;
}

pub session_begins : (r : Rules) (s : LineState) → IsBeginning (of_session r (open_at s))
session_begins r s = record { replies = refl; over = refl; steps = λ most. refl; goes_on = λ lines. (of_session r (state_after r (open_at s) lines), session_behind r (open_at s) lines) }

-- behind `quit`
stays_over : (r : Rules) (state : State) (lines : List ScriptLine) → state.over ≡ true → state_after r state lines ≡ state
stays_over r state [] over = refl
stays_over r state (line ∷ lines) over =
    let still : (step r state line).state ≡ state = ap (λ b. (if b then record { lines = []; state = state } else step_line r state.standing line).state) over in
    ap (λ s. state_after r s lines) still ∙ stays_over r state lines over

silent : (r : Rules) (state : State) (lines : List ScriptLine) → state.over ≡ true → replies r state lines ≡ []
silent r state [] over = refl
silent r state (line ∷ lines) over =
    let still : step r state line ≡ record { lines = []; state = state } = ap (λ b. if b then record { lines = []; state = state } else step_line r state.standing line) over in
    ap (λ (s : Step). s.lines ++ replies r s.state lines) still ∙ silent r state lines over

pub session_quit : (r : Rules) (state : State) → state.over ≡ true → IsQuit (of_session r state)
session_quit r state over = record {
  replies = λ lines. silent r state lines over;
  over = λ lines. ap (λ (s : State). s.over) (stays_over r state lines over) ∙ over;
  answers = λ lines. ap (λ (s : State). s.standing.session_state.timeline.now) (stays_over r state lines over);
}

-- ---- a desk

pub desk_behind : (r : Rules) (state : DeskState) (lines : List ScriptLine) → Behind (of_desk r state) lines (of_desk r (desk_state_after r state lines))
desk_behind r state lines = record {
  replies = desk_replies-append r state lines;
  over = λ l. ap (λ (s : DeskState). s.over) (desk_state_after-append r state lines l);
  answers = λ l. ap (λ (s : DeskState). s.desk.session_state.timeline.now) (desk_state_after-append r state lines l);
  steps = λ most l. desk_steps-append most r state lines l;
}

pub desk_begins : (r : Rules) (d : Defined) → IsBeginning (of_desk r (desk_open d))
desk_begins r d = record { replies = refl; over = refl; steps = λ most. refl; goes_on = λ lines. (of_desk r (desk_state_after r (desk_open d) lines), desk_behind r (desk_open d) lines) }

desk_stays_over : (r : Rules) (state : DeskState) (lines : List ScriptLine) → state.over ≡ true → desk_state_after r state lines ≡ state
desk_stays_over r state [] over = refl
desk_stays_over r state (line ∷ lines) over =
    let still : (desk_line_step r state line).state ≡ state = ap (λ b. (if b then record { lines = []; state = state } else step_party_line r state.desk line).state) over in
    ap (λ s. desk_state_after r s lines) still ∙ desk_stays_over r state lines over

desk_silent : (r : Rules) (state : DeskState) (lines : List ScriptLine) → state.over ≡ true → desk_replies r state lines ≡ []
desk_silent r state [] over = refl
desk_silent r state (line ∷ lines) over =
    let still : desk_line_step r state line ≡ record { lines = []; state = state } = ap (λ b. if b then record { lines = []; state = state } else step_party_line r state.desk line) over in
    ap (λ (s : DeskStep). s.lines ++ desk_replies r s.state lines) still ∙ desk_silent r state lines over

pub desk_quit : (r : Rules) (state : DeskState) → state.over ≡ true → IsQuit (of_desk r state)
desk_quit r state over = record {
  replies = λ lines. desk_silent r state lines over;
  over = λ lines. ap (λ (s : DeskState). s.over) (desk_stays_over r state lines over) ∙ over;
  answers = λ lines. ap (λ (s : DeskState). s.desk.session_state.timeline.now) (desk_stays_over r state lines over);
}

-- ---- a run

pub meaning_begins : (r : Rules) (mode : Mode) (relations : List Named) (a : Answered) → IsBeginning (meaning_of r mode relations a)
meaning_begins r Incremental relations a = session_begins r (at_start r (record { answers = a; stamps = true; relations = relations })).standing
meaning_begins r Plain relations a = session_begins r (at_start r (record { answers = a; stamps = false; relations = relations })).standing
meaning_begins r Desk relations a = desk_begins r (desk_at_start r a).desk

-- ---- where nobody reads the replies

pub silently_behind : (m : Meaning) (lines : List ScriptLine) (rest : Meaning) → Behind m lines rest → Behind (silently m) lines (silently rest)
silently_behind m lines rest behind = record { replies = λ l. refl; over = behind.over; answers = behind.answers; steps = behind.steps }

pub silently_begins : (m : Meaning) → IsBeginning m → IsBeginning (silently m)
silently_begins m begins = record {
  replies = refl;
  over = begins.over;
  steps = begins.steps;
  goes_on = λ lines. let on = begins.goes_on lines in (silently on.0, silently_behind m lines on.0 on.1);
}

pub silently_quits : (m : Meaning) → IsQuit m → IsQuit (silently m)
silently_quits m quits = record { replies = λ lines. refl; over = quits.over; answers = quits.answers }
