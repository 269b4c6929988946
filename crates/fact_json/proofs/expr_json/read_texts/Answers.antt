use Rattle.std.proofs.Common.{arith}
use Rattle.fact_json.proofs.OperandLaws.{two_texts_else}
use Rattle.fact_json.proofs.expr_json.read_texts.Goals as goal

pub returns-then-items-ne3 : goal.returns-then-items-ne3
returns-then-items-ne3 c = two_texts_else c.args.items.now c.requires (omega arith)
