use Rattle.save_file.proofs.Common.{None, Some, ◌∙◌}
use Rattle.save_file.proofs.OwnLaws.{named_of}
use Rattle.save_file.proofs.own_lines.members_named.Goals as goal

pub returns-in-None-clause-members : goal.returns-in-None-clause-members
returns-in-None-clause-members c = named_of c.args.name.now c.args.read.now c.as_slice.result.now c.as_slice.ensures.value None c.in-None.ensures

pub returns-in-Some-clause-members : goal.returns-in-Some-clause-members
returns-in-Some-clause-members c = c.members_of.ensures.members ∙ named_of c.args.name.now c.args.read.now c.as_slice.result.now c.as_slice.ensures.value (Some c.in-Some.line.now) c.in-Some.ensures
