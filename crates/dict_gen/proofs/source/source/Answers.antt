use Rattle.std.proofs.Common.{ap, sym, ◌∙◌, add-one}
use Rattle.dict_gen.specs.Chain.{chain}
use Rattle.dict_gen.proofs.source.source.Goals as goal

pub loop-before-preserved : goal.loop-before-preserved
loop-before-preserved c = c.in-Ok.ensures ∙ ap chain (sym (add-one c.loop-before.before))
