use Rattle.std.proofs.Common.{arith}
use Rattle.save_file.proofs.DroppedLaws.{shortened_at}
use Rattle.save_file.proofs.dropped.shortened.Goals as goal

pub returns-clause-text : goal.returns-clause-text
returns-clause-text c = shortened_at c.args.word.now c.min.result (omega (arith, c.min.ensures))
