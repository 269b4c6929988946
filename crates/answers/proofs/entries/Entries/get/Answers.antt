use Rattle.std.proofs.Common.{sym}
use Rattle.answers.proofs.SideLaws.{nothing_at}
use Rattle.answers.proofs.entries.Entries.get.Goals as goal

pub returns-in-None : goal.returns-in-None
returns-in-None c = sym (nothing_at c.args.side c.args.self.now c.args.fact c.in-None.is)
