use Rattle.std.proofs.Common.{◌∙◌}
use Rattle.dict_gen.proofs.ScriptLaws.{moved}
use Rattle.dict_gen.proofs.script.put_moves.Goals as goal

pub returns : goal.returns
returns c = moved c.put.result _ _ _ c.args.line.now c.as_str.result.now c.args.n c.in_ok-put_times.ensures (c.as_str.ensures.value ∙ c.in_ok-get.ensures) c.put.ensures
