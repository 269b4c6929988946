use Rattle.std.proofs.Common.{◌≡◌, ℕ, []}
use Rattle.std.specs.Prelude.{vec_len}
use Rattle.dep_index.specs.Readers.{readers_of}
use Rattle.dep_index.proofs.index.without_readers.Given as goal

abbrev pub invariant-loop-n : goal.invariant-loop-n
invariant-loop-n l = record {
  count : vec_len l.by_fact ≡ l._n;
  none : (fact : ℕ) → readers_of l.by_fact.items fact ≡ [];
}
