-- What is kept, with the facts that are left, is an index.
use Rattle.std.proofs.Common.{map}
use Rattle.dict_source.specs.Facts.{fact_view}
use Rattle.dict_source.proofs.PathIndexLaws.{IsIndexSoFar}
use Rattle.dict_source.proofs.dict_source.index_of.Given as goal

abbrev pub invariant-loop-i : goal.invariant-loop-i
invariant-loop-i l = IsIndexSoFar (map fact_view l.facts) l.index l.i
