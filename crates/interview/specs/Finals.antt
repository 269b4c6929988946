-- What is printed as final holds, however a script is answered.
use Rattle.std.specs.Prelude.{true, false, List}
use Rattle.script_lines.specs.Lines.{ScriptLine}
use Rattle.answers.specs.Answered.{Answered}
use Rattle.dictionary.specs.AcceptedParts.{Named}
use Rattle.graph_session.specs.Rules.{Rules}
use Rattle.session_lines.specs.Laws.{FinalsHold}
use Rattle.session_lines.specs.Stepping.{at_start, state_after}
use Rattle.desk_lines.specs.DeskLaws.{DeskFinalsHold}
use Rattle.desk_lines.specs.DeskStepping.{desk_at_start, desk_state_after}
use Rattle.script_runs.specs.declared.mode.Mode.{Mode}
use Rattle.script_runs.specs.declared.mode.Mode.TheVariants.{Incremental, Plain, Desk}

-- where these lines lead: what is printed as final there is complete, and stays so under every extension of the answers
abbrev pub AreFinalsKept : Rules → Mode → List Named → Answered → List ScriptLine → Type 0
AreFinalsKept r Incremental relations a lines = FinalsHold r (state_after r (at_start r (record { answers = a; stamps = true; relations = relations })) lines).standing
AreFinalsKept r Plain relations a lines = FinalsHold r (state_after r (at_start r (record { answers = a; stamps = false; relations = relations })) lines).standing
AreFinalsKept r Desk relations a lines = DeskFinalsHold r (desk_state_after r (desk_at_start r a) lines).desk
