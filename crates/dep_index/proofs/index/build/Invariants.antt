use Rattle.std.proofs.Common.{◌≡◌, ℕ, [], drop, length}
use Rattle.std.specs.Prelude.{vec_len}
use Rattle.dictionary.specs.AcceptedParts.{accepted}
use Rattle.dep_index.specs.Noting.{with_facts}
use Rattle.dep_index.specs.Readers.{readers_of}
use Rattle.dep_index.proofs.index.build.Given as goal

-- what is left to note leads to the whole
abbrev pub invariant-loop-reader : goal.invariant-loop-reader
invariant-loop-reader l = record {
  count : vec_len l.by_fact ≡ length (accepted l.dict).tree.facts;
  noted : (fact : ℕ) → with_facts (accepted l.dict).tree fact (readers_of l.by_fact.items fact) (drop l.reader-index l.order) ≡ with_facts (accepted l.dict).tree fact [] l.order;
}
