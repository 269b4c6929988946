-- How many steps the lines of a script of several parties take at most: a bound for each change that the session would accept, and
-- none for any other line.
use Rattle.std.specs.Prelude.{ℕ, ◌+◌, List, [], ◌∷◌, if◌then◌else◌}
use Rattle.script_lines.specs.Lines.{ScriptLine, whole, long}
use Rattle.answers.specs.Answered.{Answered}
use Rattle.dict_meaning.specs.Accepted.{Accepted}
use Rattle.graph_session.specs.Rules.{Rules}
use Rattle.graph_session.specs.SessionView.{SessionState}
use Rattle.graph_session.specs.Step.{most_steps}
use Rattle.desk_lines.specs.DeskStepping.{DeskState, desk_line_step}
use Rattle.desk_lines.specs.PartyLines.{party_said_in}
use Rattle.desk_lines.specs.declared.party_line.PartyLine.{PartyLine}
use Rattle.desk_lines.specs.declared.party_line.PartyLine.TheVariants.{Silent, NoParty, NoCommand, Asks}

-- An engine has a bound for each change, from answers to answers. A command takes that of the change that the session would make of
-- it, also where the desk refuses it as stale or as another party's.
abbrev pub steps_of_said : (Accepted → Answered → Answered → ℕ) → Rules → SessionState → PartyLine → ℕ
steps_of_said most r c Silent = 0
steps_of_said most r c NoParty = 0
steps_of_said most r c (NoCommand p) = 0
steps_of_said most r c (Asks p asked) = most_steps (most r.accepted) r c asked

abbrev pub steps_of_party_line : (Accepted → Answered → Answered → ℕ) → Rules → SessionState → ScriptLine → ℕ
steps_of_party_line most r c (whole line) = steps_of_said most r c (party_said_in line)
steps_of_party_line most r c long = 0

-- what follows `quit` takes none
abbrev pub desk_steps_from : (Accepted → Answered → Answered → ℕ) → Rules → DeskState → ScriptLine → ℕ
desk_steps_from most r state line = if state.over then 0 else steps_of_party_line most r state.desk.session_state line

-- the sum over lines in order, each from where the lines before it lead
abbrev pub steps_of_desk_lines : (Accepted → Answered → Answered → ℕ) → Rules → DeskState → List ScriptLine → ℕ
steps_of_desk_lines most r state [] = 0
steps_of_desk_lines most r state (line ∷ lines) = desk_steps_from most r state line + steps_of_desk_lines most r (desk_line_step r state line).state lines
