use Rattle.std.proofs.Common.{◌≡◌}
use Rattle.dict_source.specs.Dictionary.{dictionary_view}
use Rattle.dict_gen.specs.Chain.{chain}
use Rattle.dict_gen.proofs.source.source.Given as goal

abbrev pub invariant-loop-before : goal.invariant-loop-before
invariant-loop-before l = dictionary_view l.source ≡ chain l.before
