use Rattle.std.proofs.Common.{arith}
use Rattle.fact_json.proofs.OperandLaws.{two_texts_none}
use Rattle.fact_json.proofs.members.two_texts_of.Goals as goal

pub returns-then-items-ne2 : goal.returns-then-items-ne2
returns-then-items-ne2 c = two_texts_none c.args.items.now (omega arith)
