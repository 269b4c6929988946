use Rattle.std.proofs.Common.{arith}
use Rattle.fact_json.proofs.OperandLaws.{one_text_else}
use Rattle.fact_json.proofs.expr_json.read_text.Goals as goal

pub returns-then-items-ne2 : goal.returns-then-items-ne2
returns-then-items-ne2 c = one_text_else c.args.items.now c.requires (omega arith)
