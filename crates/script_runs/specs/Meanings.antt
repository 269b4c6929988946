-- What the lines of a script mean from a place on, whoever answers them.
use Rattle.std.specs.Prelude.{◌≡◌, ℕ, ◌+◌, Bool, true, false, List, [], ◌++◌}
use Rattle.script_lines.specs.Joined.{joined}
use Rattle.script_lines.specs.Lines.{ScriptLine}
use Rattle.answers.specs.Answered.{Answered}
use Rattle.dict_meaning.specs.Accepted.{Accepted}
use Rattle.dictionary.specs.AcceptedParts.{Named}
use Rattle.graph_session.specs.Rules.{Rules}
use Rattle.session_lines.specs.Stepping.{State, at_start, state_after}
use Rattle.session_lines.specs.Stepping as session
use Rattle.session_lines.specs.Steps.{steps_of_lines}
use Rattle.desk_lines.specs.DeskStepping.{DeskState, desk_at_start, desk_replies, desk_state_after}
use Rattle.desk_lines.specs.DeskSteps.{steps_of_desk_lines}
use Rattle.script_runs.specs.declared.mode.Mode.{Mode}
use Rattle.script_runs.specs.declared.mode.Mode.TheVariants.{Incremental, Plain, Desk}

pub record Meaning : Type 0 where
  -- the lines that are written for these lines, in order
  pub replies : List ScriptLine → List (List ℕ)
  -- whether one of them ends the script
  pub over : List ScriptLine → Bool
  -- the answers that stand behind them
  pub answers : List ScriptLine → Answered
  -- how many steps they take at most, where an engine has this bound for a change from answers to answers
  pub steps : (Accepted → Answered → Answered → ℕ) → List ScriptLine → ℕ

-- their bytes
abbrev pub texts : Meaning → List ScriptLine → List ℕ
texts m lines = joined (m.replies lines)

-- ---- a session, and a desk

abbrev pub of_session : Rules → State → Meaning
of_session r state = record {
  replies = session.replies r state;
  over = λ lines. (state_after r state lines).over;
  answers = λ lines. (state_after r state lines).standing.session_state.timeline.now;
  steps = λ most. steps_of_lines most r state;
}

abbrev pub of_desk : Rules → DeskState → Meaning
of_desk r state = record {
  replies = desk_replies r state;
  over = λ lines. (desk_state_after r state lines).over;
  answers = λ lines. (desk_state_after r state lines).desk.session_state.timeline.now;
  steps = λ most. steps_of_desk_lines most r state;
}

-- of a session that begins with these answers, over an engine that keeps stamps or none, where slots may be watched by these relations
abbrev pub of_answers : Rules → Bool → List Named → Answered → Meaning
of_answers r stamps relations a = of_session r (at_start r (record { answers = a; stamps = stamps; relations = relations }))

-- the script of a run over these rules
abbrev pub meaning_of : Rules → Mode → List Named → Answered → Meaning
meaning_of r Incremental relations a = of_answers r true relations a
meaning_of r Plain relations a = of_answers r false relations a
meaning_of r Desk relations a = of_desk r (desk_at_start r a)

-- the same lines where nobody reads the replies
abbrev pub silently : Meaning → Meaning
silently m = record m { replies = λ lines. [] }

-- ---- lines behind lines

-- behind these lines, what follows means this
pub record Behind (m : Meaning) (lines : List ScriptLine) (rest : Meaning) : Type 0 where
  pub replies : (more : List ScriptLine) → m.replies (lines ++ more) ≡ m.replies lines ++ rest.replies more
  pub over : (more : List ScriptLine) → m.over (lines ++ more) ≡ rest.over more
  pub answers : (more : List ScriptLine) → m.answers (lines ++ more) ≡ rest.answers more
  pub steps : (most : Accepted → Answered → Answered → ℕ) (more : List ScriptLine) → m.steps most (lines ++ more) ≡ m.steps most lines + rest.steps most more

-- a script may begin so: nothing was written for no lines, nothing ended it, and behind all lines others may follow
pub record IsBeginning (m : Meaning) : Type 0 where
  pub replies : m.replies [] ≡ []
  pub over : m.over [] ≡ false
  pub steps : (most : Accepted → Answered → Answered → ℕ) → m.steps most [] ≡ 0
  pub goes_on : (lines : List ScriptLine) → (rest : Meaning) × Behind m lines rest

-- the script was quit: no line has an effect any more
pub record IsQuit (m : Meaning) : Type 0 where
  pub replies : (lines : List ScriptLine) → m.replies lines ≡ []
  pub over : (lines : List ScriptLine) → m.over lines ≡ true
  pub answers : (lines : List ScriptLine) → m.answers lines ≡ m.answers []
