use Rattle.std.proofs.Common.{arith}
use Rattle.dict_source.specs.View.{literal_of}
use Rattle.fact_json.proofs.OperandLaws.{no_operand_else}
use Rattle.fact_json.proofs.expr_json.read_bare.Goals as goal

pub returns-then-items-ne1 : goal.returns-then-items-ne1
returns-then-items-ne1 c = no_operand_else (literal_of c.args.constant) c.args.items.now c.requires (omega arith)
