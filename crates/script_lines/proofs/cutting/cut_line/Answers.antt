use Rattle.script_lines.proofs.Bytes.{cut_at, uncut}
use Rattle.script_lines.proofs.cutting.cut_line.Goals as goal

pub returns-in-None-clause-lines : goal.returns-in-None-clause-lines
returns-in-None-clause-lines c = uncut c.args.bytes.now c.requires c.in-None.ensures.none

pub returns-in-Some-clause-lines : goal.returns-in-Some-clause-lines
returns-in-Some-clause-lines c = cut_at c.args.bytes.now c.in-Some.at c.in-Some.ensures.found
