use Rattle.script_lines.proofs.JoinedLaws.{lines_of-joined, ended_of-joined}
use Rattle.script_lines.proofs.laws.lines_are_those_joined.Goals as goal

pub returns : goal.returns
returns c = record { lines = lines_of-joined; ended = ended_of-joined }
