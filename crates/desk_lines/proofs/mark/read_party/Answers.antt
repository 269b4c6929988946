use Rattle.std.proofs.Common.{sym}
use Rattle.desk_lines.proofs.MarkLaws.{no_number}
use Rattle.desk_lines.proofs.mark.read_party.Goals as goal

pub returns-in_default : goal.returns-in_default
returns-in_default c = sym (no_number c.args.digits.now c.in_default.ensures.cases.0)
