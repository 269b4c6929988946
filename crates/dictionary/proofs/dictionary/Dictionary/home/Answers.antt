use Rattle.std.proofs.Common.{◌-◌, arith}
use Rattle.dict_source.specs.Dictionary.{dictionary_view}
use Rattle.dictionary.proofs.KeptLaws.{home_of_fact}
use Rattle.dictionary.proofs.dictionary.Dictionary.home.Goals as goal

pub returns : goal.returns
returns c =
    let there = rw (← c.self.view_is) at c.requires.1 in
    rw (← c.self.view_is)
    (home_of_fact (dictionary_view c.self.inside.contents.value.source) c.self.inside.contents.value.precomputed.homes.items c.args.fact (c.args.fact - 1) c.index.result.now c.self.invariant.precomputed_of.home (rw c.deref.ensures at c.index.ensures) (omega (arith, c.requires.0)) (omega (arith, c.requires.0, there)))
