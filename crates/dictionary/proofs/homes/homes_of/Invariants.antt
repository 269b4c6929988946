-- The homes so far, with those of the facts that are left, are all.
use Rattle.std.proofs.Common.{◌≡◌, ◌++◌, drop, map}
use Rattle.dict_source.specs.Dictionary.{dictionary_view}
use Rattle.dict_source.specs.Facts.{fact_view}
use Rattle.dict_meaning.specs.Homes.{fact_home, homes}
use Rattle.dictionary.proofs.homes.homes_of.Given as goal

abbrev pub invariant-loop-fact : goal.invariant-loop-fact
invariant-loop-fact l = l.list.items ++ map (fact_home (dictionary_view l.source)) (map fact_view (drop l.fact-index l.fact-items)) ≡ homes (dictionary_view l.source)
