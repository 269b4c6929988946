use Rattle.std.proofs.Common.{arith, ap, option_map}
use Rattle.dict_source.specs.View.{use_of}
use Rattle.fact_json.proofs.OperandLaws.{one_text_else}
use Rattle.fact_json.proofs.expr_json.read_path.Goals as goal

pub returns-then-items-ne2 : goal.returns-then-items-ne2
returns-then-items-ne2 c = ap (option_map use_of) (one_text_else c.args.items.now c.requires (omega arith))
