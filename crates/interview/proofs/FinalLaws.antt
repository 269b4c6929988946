-- What is printed as final holds, in each mode.
use Rattle.std.proofs.Common.{ℕ, true, false, List}
use Rattle.script_lines.specs.Lines.{ScriptLine}
use Rattle.answers.specs.Answered.{Answered}
use Rattle.dict_meaning.specs.Accepted.{IsAccepted}
use Rattle.dictionary.specs.AcceptedParts.{Named}
use Rattle.graph_session.specs.Rules.{Rules}
use Rattle.session_lines.specs.Stepping.{at_start, state_after}
use Rattle.session_lines.proofs.FinalLineLaws.{final_lines_stay}
use Rattle.desk_lines.specs.DeskStepping.{desk_at_start, desk_state_after}
use Rattle.desk_lines.proofs.DeskFinalLaws.{desk_final_lines_stay}
use Rattle.script_runs.specs.declared.mode.Mode.{Mode}
use Rattle.script_runs.specs.declared.mode.Mode.TheVariants.{Incremental, Plain, Desk}
use Rattle.interview.specs.Finals.{AreFinalsKept}

pub finals_are_kept : (names : List (List ℕ)) (r : Rules) → IsAccepted names r.accepted → (mode : Mode) (relations : List Named) (a : Answered) (lines : List ScriptLine) → AreFinalsKept r mode relations a lines
finals_are_kept names r is Incremental relations a lines = final_lines_stay names r is (state_after r (at_start r (record { answers = a; stamps = true; relations = relations })) lines).standing
finals_are_kept names r is Plain relations a lines = final_lines_stay names r is (state_after r (at_start r (record { answers = a; stamps = false; relations = relations })) lines).standing
finals_are_kept names r is Desk relations a lines = desk_final_lines_stay names r is (desk_state_after r (desk_at_start r a) lines).desk
