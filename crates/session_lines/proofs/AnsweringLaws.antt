-- A line and its answer: commands, lines one behind another, and what stands behind them.
use Rattle.std.proofs.Common.{◌≡◌, ℕ, Bool, true, false, List, [], ◌∷◌, ◌++◌, refl, sym, ap, subst, ◌∙◌, append_assoc}
use Rattle.std.specs.Prelude.{Result, Ok}
use Rattle.std.proofs.lemmas.List.{append-nil}
use Rattle.fg_io.specs.Outside.{Output}
use Rattle.script_lines.specs.Lines.{ScriptLine}
use Rattle.script_lines.specs.declared.command.Command.{Command}
use Rattle.script_lines.specs.declared.command.Command.TheVariants as commands
use Rattle.graph_session.specs.Refusals.{Refused}
use Rattle.graph_session.specs.Rules.{Rules}
use Rattle.graph_session.specs.Run.{is_memory}
use Rattle.graph_session.specs.SessionView.{SessionState}
use Rattle.graph_session.specs.Step as session
use Rattle.graph_session.specs.declared.reply.Refusal.{Refusal}
use Rattle.graph_session.specs.declared.reply.Reply.{Reply}
use Rattle.graph_session.proofs.RunLaws.{refused_step}
use Rattle.session_lines.specs.declared.progress.Progress.{Progress}
use Rattle.session_lines.specs.declared.progress.Progress.TheVariants.{More, Over, Unwritten, OutOfMemory}
use Rattle.session_lines.specs.Answering.{AnsweredAs, EndsOrWrites, KeptAs, RefusedAs, SteppedAs, OutputAs, WrittenAs}
use Rattle.session_lines.specs.Replies.{refusal_text, reply_text}
use Rattle.session_lines.specs.Writing.{WroteLines, WroteSome}
use Rattle.session_lines.proofs.WritingLaws.{lines_none}
use Rattle.session_lines.specs.Stepping.{LineState, State, Step, is_session_command, open_at, replies, said, state_after, step, step_answered, step_command, step_session_command, step_writing}

-- ---- one command

-- the session answers a command that is its own
pub known_step : (r : Rules) (s : LineState) (asked : Command) → is_session_command asked ≡ true → step_command r s asked ≡ step_session_command r s asked
known_step r s (commands.Missing path) known = absurd cc
known_step r s (commands.Watch name path) known = absurd cc
known_step r s (commands.Unwatch name path) known = absurd cc
known_step r s commands.Quit known = absurd cc
known_step r s asked known = refl

module _ (sink sink_now : Output) where
  -- lines that were written are a step
  pub text_step : (text : List (List ℕ)) (after : LineState) (progress : Progress) → WrittenAs sink sink_now text progress
      → SteppedAs sink sink_now (record { lines = text; state = open_at after }) after progress
  text_step text after More written = (written, refl)
  text_step text after Over written = absurd written
  text_step text after Unwritten written = written
  text_step text after OutOfMemory written = absurd written

  pub written_output : (text : List (List ℕ)) (progress : Progress) → WrittenAs sink sink_now text progress → OutputAs sink sink_now text progress
  written_output text More written = written
  written_output text Over written = absurd written
  written_output text Unwritten written = written
  written_output text OutOfMemory written = absurd written

  -- so are lines for which there may have been no memory
  pub output_step : (text : List (List ℕ)) (s : LineState) (progress : Progress) → OutputAs sink sink_now text progress
      → SteppedAs sink sink_now (record { lines = text; state = open_at s }) s progress
  output_step text s More output = (output, refl)
  output_step text s Over output = absurd output
  output_step text s Unwritten output = output
  output_step text s OutOfMemory output = output

  -- a refusal is told
  pub refusal_output : (text : List (List ℕ)) (memory : Bool) (progress : Progress) → EndsOrWrites memory sink sink_now text progress → OutputAs sink sink_now text progress
  refusal_output text true progress ended = subst (OutputAs sink sink_now text) (sym ended.1) ended.0
  refusal_output text false progress written = written_output text progress written

  -- and it is a step, where it isn't want of memory
  pub ends_or_steps : (made : Step) (s : LineState) (text : List ℕ) (memory : Bool) (progress : Progress) → (memory ≡ false → made ≡ step_writing s text)
      → EndsOrWrites memory sink sink_now (text ∷ []) progress → SteppedAs sink sink_now made s progress
  ends_or_steps made s text true progress is ended = subst (SteppedAs sink sink_now made s) (sym ended.1) ended.0
  ends_or_steps made s text false progress is written =
      subst (λ k. SteppedAs sink sink_now k s progress) (sym (is refl)) (text_step (text ∷ []) s progress written)

  -- the session's reply, with what is said behind it
  pub reply_steps : (r : Rules) (s : LineState) (d : SessionState) (asked : Command) (reply : Reply) (text : List (List ℕ)) (progress : Progress) → session.step r s.session_state asked ≡ Ok (reply, d)
      → said r s asked (reply_text r d reply) d ≡ text → WrittenAs sink sink_now text progress → SteppedAs sink sink_now (step_session_command r s asked) (record s { session_state = d }) progress
  reply_steps r s d asked reply text progress is same written =
      subst (λ k. SteppedAs sink sink_now k (record s { session_state = d }) progress)
      (sym (ap (step_answered r s asked) is ∙ ap {A = List (List ℕ)} {B = Step} (λ t. record { lines = t; state = open_at (record s { session_state = d }) }) same))
      (text_step text (record s { session_state = d }) progress written)

  -- and its refusal
  pub refusal_steps : (r : Rules) (s : LineState) (d : SessionState) (asked : Command) (refusal : Refusal) (progress : Progress) → Refused refusal (session.refusal r s.session_state asked) → d ≡ s.session_state
      → RefusedAs sink sink_now refusal progress → SteppedAs sink sink_now (step_session_command r s asked) (record s { session_state = d }) progress
  refusal_steps r s d asked refusal progress refused same written =
      subst (λ (e : SessionState). SteppedAs sink sink_now (step_session_command r s asked) (record s { session_state = e }) progress) (sym same)
      (ends_or_steps (step_session_command r s asked) s (refusal_text refusal) (is_memory refusal) progress
      (λ known. ap (step_answered r s asked) (refused_step r s.session_state asked refusal known refused)) written)

module _ (sink sink_now : Output) (here_now : LineState) where
  -- a step is the answer to its line
  pub answers_line : (r : Rules) (here : LineState) (line : ScriptLine) (made : Step) (progress : Progress) → step r (open_at here) line ≡ made → SteppedAs sink sink_now made here_now progress
      → AnsweredAs r sink sink_now here here_now (line ∷ []) progress
  answers_line r here line made progress is stepped = cases progress (subst (λ s. SteppedAs sink sink_now s here_now progress) (sym is) stepped)
    where
      text : (step r (open_at here) line).lines ≡ replies r (open_at here) (line ∷ [])
      text = sym (append-nil (step r (open_at here) line).lines)

      cases : (progress : Progress) → SteppedAs sink sink_now (step r (open_at here) line) here_now progress → AnsweredAs r sink sink_now here here_now (line ∷ []) progress
      cases More stepped = (subst (WroteLines sink sink_now) text stepped.0, stepped.1)
      cases Over stepped =
          let silent : [] ≡ replies r (open_at here) (line ∷ []) = sym stepped.1 ∙ text in
          (subst (WroteLines sink sink_now) silent (subst (λ (now : Output). WroteLines sink now []) (sym stepped.0) (lines_none sink)), stepped.2)
      cases Unwritten stepped = subst (WroteSome sink sink_now) text stepped
      cases OutOfMemory stepped = stepped

-- ---- what stands behind a step

-- where nothing changes all is as before
pub keeps_still : (here : LineState) (progress : Progress) → KeptAs (open_at here) here here progress
keeps_still here More = tt
keeps_still here Over = tt
keeps_still here Unwritten = refl
keeps_still here OutOfMemory = refl

-- a line leaves what its step leaves
pub keeps_line : (r : Rules) (here here_now : LineState) (line : ScriptLine) (made : Step) (progress : Progress) → step r (open_at here) line ≡ made → KeptAs made.state here here_now progress
    → KeptAs (state_after r (open_at here) (line ∷ [])) here here_now progress
keeps_line r here here_now line made progress is kept = subst (λ (s : Step). KeptAs s.state here here_now progress) (sym is) kept

module _ (sink sink_now : Output) (here here_now : LineState) where
  -- there was memory for a text that was written
  pub keeps_written : (state : State) (text : List (List ℕ)) (progress : Progress) → state ≡ open_at here_now → WrittenAs sink sink_now text progress → KeptAs state here here_now progress
  keeps_written state text More is written = tt
  keeps_written state text Over is written = tt
  keeps_written state text Unwritten is written = is
  keeps_written state text OutOfMemory is written = absurd written

  -- a refusal changes nothing
  pub keeps_refused : (state : State) (text : List (List ℕ)) (memory : Bool) (progress : Progress) → here_now ≡ here → (memory ≡ false → state ≡ open_at here)
      → EndsOrWrites memory sink sink_now text progress → KeptAs state here here_now progress
  keeps_refused state text true progress same is ended = subst (KeptAs state here here_now) (sym ended.1) same
  keeps_refused state text false progress same is written = keeps_written state text progress (is refl ∙ ap open_at (sym same)) written

module _ (sink sink_now : Output) (r : Rules) (s : LineState) (d : SessionState) (asked : Command) where
  pub reply_keeps : (reply : Reply) (text : List (List ℕ)) (progress : Progress) → session.step r s.session_state asked ≡ Ok (reply, d) → WrittenAs sink sink_now text progress
      → KeptAs (step_session_command r s asked).state s (record s { session_state = d }) progress
  reply_keeps reply text progress is written =
      keeps_written sink sink_now s (record s { session_state = d }) (step_session_command r s asked).state text progress (ap (λ (a : Result (Reply × SessionState) Refusal). (step_answered r s asked a).state) is) written

  pub refusal_keeps : (refusal : Refusal) (progress : Progress) → Refused refusal (session.refusal r s.session_state asked) → d ≡ s.session_state → RefusedAs sink sink_now refusal progress
      → KeptAs (step_session_command r s asked).state s (record s { session_state = d }) progress
  refusal_keeps refusal progress refused same written =
      keeps_refused sink sink_now s (record s { session_state = d }) (step_session_command r s asked).state (refusal_text refusal ∷ []) (is_memory refusal) progress (ap (λ (c : SessionState). record s { session_state = c }) same)
      (λ known. ap (λ (a : Result (Reply × SessionState) Refusal). (step_answered r s asked a).state) (refused_step r s.session_state asked refusal known refused)) written

-- ---- replies to lines one behind another

pub replies-append : (r : Rules) (state : State) (xs ys : List ScriptLine) → replies r state (xs ++ ys) ≡ replies r state xs ++ replies r (state_after r state xs) ys
replies-append r state [] ys = refl
replies-append r state (x ∷ xs) ys =
    ap (λ l. (step r state x).lines ++ l) (replies-append r (step r state x).state xs ys) ∙ sym (append_assoc (step r state x).lines _ _)

pub state_after-append : (r : Rules) (state : State) (xs ys : List ScriptLine) → state_after r state (xs ++ ys) ≡ state_after r (state_after r state xs) ys
state_after-append r state [] ys = refl
state_after-append r state (x ∷ xs) ys = state_after-append r (step r state x).state xs ys
