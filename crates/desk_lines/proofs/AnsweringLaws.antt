-- A line of a party and its answer: commands, and lines one behind another.
use Rattle.std.proofs.Common.{◌≡◌, ℕ, Bool, true, false, List, [], ◌∷◌, ◌++◌, Option, Some, refl, sym, ap, subst, ◌∙◌, append_assoc}
use Rattle.std.specs.Prelude.{Ok}
use Rattle.std.proofs.lemmas.List.{append-nil}
use Rattle.fact_paths.specs.declared.slot_path.SlotPath.{SlotPath}
use Rattle.fg_io.specs.Outside.{Output}
use Rattle.script_lines.specs.Lines.{ScriptLine}
use Rattle.script_lines.specs.declared.command.Command.{Command}
use Rattle.script_lines.specs.declared.command.Command.TheVariants as commands
use Rattle.script_lines.specs.declared.command.Command.TheVariants.{Missing}
use Rattle.graph_session.specs.Refusals.{slot_found}
use Rattle.graph_session.specs.Rules.{Rules, rules}
use Rattle.graph_session.specs.SessionView.{SessionState, SessionView, session_state}
use Rattle.graph_session.specs.Step.{reply as reply_of}
use Rattle.graph_session.specs.declared.reply.Reply.{Reply}
use Rattle.session_lines.specs.Answering.{EndsOrWrites, OutputAs, WrittenAs}
use Rattle.session_lines.specs.Replies.{missing_output, reply_text}
use Rattle.session_lines.specs.declared.progress.Progress.{Progress}
use Rattle.session_lines.specs.declared.progress.Progress.TheVariants.{More, Over, Unwritten, OutOfMemory}
use Rattle.shared_desk.specs.Desk.{Desk, desk_after, desk_refusal, desk_step}
use Rattle.shared_desk.specs.DeskView.{DeskView, StandsFor, rules_of}
use Rattle.shared_desk.specs.Refusals.{Refused, RefusedBut, decided, wants_memory}
use Rattle.shared_desk.specs.declared.refusal.DeskRefusal.{DeskRefusal}
use Rattle.desk_lines.specs.DeskAnswering.{DeskOutput}
use Rattle.desk_lines.specs.DeskStepping.{DeskState, DeskStep, desk_line_step, desk_open, desk_refusal_text, desk_replies, desk_state_after, is_session_command, marked_lines, step_asked, step_decided}

-- ---- one command

-- the desk answers a command that is its own
pub known_asked : (r : Rules) (d : Desk) (p : ℕ) (asked : Command) → is_session_command asked ≡ true → step_asked r d p asked ≡ step_decided r d p (desk_step r d p asked)
known_asked r d p (commands.Missing path) known = absurd cc
known_asked r d p commands.Quit known = absurd cc
known_asked r d p asked known = refl

module _ (sink sink_now : Output) (v v_now : DeskView) where
  -- a text that was written is told
  pub written_output : (text : List (List ℕ)) (d : Desk) (progress : Progress) → WrittenAs sink sink_now text progress → StandsFor v_now d
      → DeskOutput sink sink_now v v_now text (desk_open d) progress
  written_output text d More written stands = (written, (stands, refl))
  written_output text d Over written stands = absurd written
  written_output text d Unwritten written stands = (written, (stands, refl))
  written_output text d OutOfMemory written stands = absurd written

  -- so is one for which there may have been no memory
  pub maybe_output : (text : List (List ℕ)) (d : Desk) (progress : Progress) → OutputAs sink sink_now text progress → StandsFor v_now d → v_now ≡ v
      → DeskOutput sink sink_now v v_now text (desk_open d) progress
  maybe_output text d More output stands same = (output, (stands, refl))
  maybe_output text d Over output stands same = absurd output
  maybe_output text d Unwritten output stands same = (output, (stands, refl))
  maybe_output text d OutOfMemory output stands same = (output, same)

  -- the same of what a step tells
  pub step_output : (made step : DeskStep) (progress : Progress) → made ≡ step → DeskOutput sink sink_now v v_now step.lines step.state progress
      → DeskOutput sink sink_now v v_now made.lines made.state progress
  step_output made step progress is output = subst (λ (k : DeskStep). DeskOutput sink sink_now v v_now k.lines k.state progress) (sym is) output

  -- a refusal is told, or there was no memory
  ends_or_output : (made : DeskStep) (d : Desk) (text : List (List ℕ)) (memory : Bool) (progress : Progress) → (memory ≡ false → made ≡ record { lines = text; state = desk_open d })
      → EndsOrWrites memory sink sink_now text progress → StandsFor v_now d → v_now ≡ v
      → DeskOutput sink sink_now v v_now made.lines made.state progress
  ends_or_output made d text true progress is ended stands same =
      subst (DeskOutput sink sink_now v v_now made.lines made.state) (sym ended.1) (ended.0, same)
  ends_or_output made d text false progress is written stands same =
      step_output made (record { lines = text; state = desk_open d }) progress (is refl) (written_output text d progress written stands)

  defined : (refusal : DeskRefusal) (o : Option DeskRefusal) (memory : Bool) → memory ≡ false → RefusedBut memory refusal o → o ≡ Some refusal
  defined refusal o true m refused = absurd cc
  defined refusal o false m refused = refused

  -- what the desk refuses
  pub refusal_output : (r : Rules) (d : Desk) (p : ℕ) (asked : Command) (refusal : DeskRefusal) (progress : Progress) → Refused refusal (desk_refusal r d p asked)
      → EndsOrWrites (wants_memory refusal) sink sink_now (marked_lines p (desk_refusal_text refusal ∷ [])) progress → StandsFor v_now d → v_now ≡ v
      → DeskOutput sink sink_now v v_now (step_decided r d p (desk_step r d p asked)).lines (step_decided r d p (desk_step r d p asked)).state progress
  refusal_output r d p asked refusal progress refused written stands same =
      ends_or_output (step_decided r d p (desk_step r d p asked)) d (marked_lines p (desk_refusal_text refusal ∷ [])) (wants_memory refusal) progress
      (λ known. ap (λ (o : Option DeskRefusal). step_decided r d p (decided o (reply_of r d.session_state asked, desk_after r d p asked))) (defined refusal (desk_refusal r d p asked) (wants_memory refusal) known refused))
      written stands same

  -- what the desk replies: the session's words after the line
  pub reply_output : (r : Rules) (d after : Desk) (p : ℕ) (asked : Command) (reply : Reply) (session : SessionView) (progress : Progress) → desk_step r d p asked ≡ Ok (reply, after)
      → StandsFor v_now after → session ≡ v_now.session → rules_of v_now ≡ r
      → WrittenAs sink sink_now (marked_lines p (reply_text (rules session.dict) (session_state session) reply ∷ [])) progress
      → DeskOutput sink sink_now v v_now (step_decided r d p (desk_step r d p asked)).lines (step_decided r d p (desk_step r d p asked)).state progress
  reply_output r d after p asked reply session progress is stands same_session same_rules written =
      let words : reply_text (rules session.dict) (session_state session) reply ≡ reply_text r after.session_state reply =
      ap (λ (s : SessionView). reply_text (rules s.dict) (session_state s) reply) same_session ∙ (λ i. reply_text (same_rules i) (stands.session_state i) reply) in
      step_output (step_decided r d p (desk_step r d p asked)) (step_decided r d p (Ok (reply, after))) progress (ap (step_decided r d p) is)
      (written_output (marked_lines p (reply_text r after.session_state reply ∷ [])) after progress (subst (λ (t : List ℕ). WrittenAs sink sink_now (marked_lines p (t ∷ [])) progress) words written) stands)

  -- what is missing, which no line changes
  pub missing_is_output : (d : Desk) (p : ℕ) (path : SlotPath) (session : SessionView) (progress : Progress) → session ≡ v.session → StandsFor v d → v_now ≡ v
      → OutputAs sink sink_now (marked_lines p (missing_output (rules session.dict) (session_state session) (slot_found (rules session.dict) session.timeline.now path))) progress
      → DeskOutput sink sink_now v v_now (step_asked (rules_of v) d p (Missing path)).lines (step_asked (rules_of v) d p (Missing path)).state progress
  missing_is_output d p path session progress same_session stands same output =
      let words : marked_lines p (missing_output (rules session.dict) (session_state session) (slot_found (rules session.dict) session.timeline.now path)) ≡ marked_lines p (missing_output (rules_of v) d.session_state (slot_found (rules_of v) d.session_state.timeline.now path)) =
      ap (λ (s : SessionView). marked_lines p (missing_output (rules s.dict) (session_state s) (slot_found (rules s.dict) s.timeline.now path))) same_session
      ∙ ap (λ (c : SessionState). marked_lines p (missing_output (rules_of v) c (slot_found (rules_of v) c.timeline.now path))) stands.session_state in
      maybe_output _ d progress (subst (λ (t : List (List ℕ)). OutputAs sink sink_now t progress) words output) (subst (λ (w : DeskView). StandsFor w d) (sym same) stands) same

-- ---- lines one behind another

-- what a line tells is its answer
pub line_output : (sink sink_now : Output) (v v_now : DeskView) (r : Rules) (here : Desk) (line : ScriptLine) (progress : Progress)
    → DeskOutput sink sink_now v v_now (desk_line_step r (desk_open here) line).lines (desk_line_step r (desk_open here) line).state progress
    → DeskOutput sink sink_now v v_now (desk_replies r (desk_open here) (line ∷ [])) (desk_state_after r (desk_open here) (line ∷ [])) progress
line_output sink sink_now v v_now r here line progress output =
    subst (λ (t : List (List ℕ)). DeskOutput sink sink_now v v_now t (desk_line_step r (desk_open here) line).state progress) (sym (append-nil (desk_line_step r (desk_open here) line).lines)) output

pub desk_replies-append : (r : Rules) (state : DeskState) (xs ys : List ScriptLine) → desk_replies r state (xs ++ ys) ≡ desk_replies r state xs ++ desk_replies r (desk_state_after r state xs) ys
desk_replies-append r state [] ys = refl
desk_replies-append r state (x ∷ xs) ys =
    ap (λ l. (desk_line_step r state x).lines ++ l) (desk_replies-append r (desk_line_step r state x).state xs ys) ∙ sym (append_assoc (desk_line_step r state x).lines _ _)

pub desk_state_after-append : (r : Rules) (state : DeskState) (xs ys : List ScriptLine) → desk_state_after r state (xs ++ ys) ≡ desk_state_after r (desk_state_after r state xs) ys
desk_state_after-append r state [] ys = refl
desk_state_after-append r state (x ∷ xs) ys = desk_state_after-append r (desk_line_step r state x).state xs ys
