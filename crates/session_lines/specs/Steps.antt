-- How many steps the lines of a script take at most: a bound for each change that is accepted, and none for any other line.
use Rattle.std.specs.Prelude.{ℕ, ◌+◌, List, [], ◌∷◌, if◌then◌else◌}
use Rattle.script_lines.specs.Lines.{ScriptLine, whole, long}
use Rattle.script_lines.specs.Parsing.{Heard, nothing, bad_line, command, heard_in}
use Rattle.script_lines.specs.declared.command.Command.{Command}
use Rattle.answers.specs.Answered.{Answered}
use Rattle.dict_meaning.specs.Accepted.{Accepted}
use Rattle.graph_session.specs.Rules.{Rules}
use Rattle.graph_session.specs.Step.{most_steps}
use Rattle.session_lines.specs.Stepping.{LineState, State, step}

-- An engine has a bound for each change, from answers to answers. A command takes that of the change that it makes, where it is
-- accepted.
abbrev pub steps_of_command : (Accepted → Answered → Answered → ℕ) → Rules → LineState → Command → ℕ
steps_of_command most r s asked = most_steps (most r.accepted) r s.session_state asked

abbrev pub steps_of_heard : (Accepted → Answered → Answered → ℕ) → Rules → LineState → Heard → ℕ
steps_of_heard most r s nothing = 0
steps_of_heard most r s bad_line = 0
steps_of_heard most r s (command asked) = steps_of_command most r s asked

abbrev pub steps_of_line : (Accepted → Answered → Answered → ℕ) → Rules → LineState → ScriptLine → ℕ
steps_of_line most r s (whole line) = steps_of_heard most r s (heard_in line)
steps_of_line most r s long = 0

-- what follows `quit` takes none
abbrev pub steps_from : (Accepted → Answered → Answered → ℕ) → Rules → State → ScriptLine → ℕ
steps_from most r state line = if state.over then 0 else steps_of_line most r state.standing line

-- the sum over lines in order, each from where the lines before it lead
abbrev pub steps_of_lines : (Accepted → Answered → Answered → ℕ) → Rules → State → List ScriptLine → ℕ
steps_of_lines most r state [] = 0
steps_of_lines most r state (line ∷ lines) = steps_from most r state line + steps_of_lines most r (step r state line).state lines
