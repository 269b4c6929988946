use Rattle.script_lines.proofs.EndedLaws.{ended_goes_on, lines_go_on, ended_after_newline, ready_lines_are_ended}
use Rattle.script_lines.proofs.laws.ended_lines_stand.Goals as goal

pub returns : goal.returns
returns c = record { ended = ended_goes_on; lines = lines_go_on; after_newline = ended_after_newline; ready = ready_lines_are_ended }
