use Rattle.std.proofs.Common.{◌≡◌, ◌+◌, ℕ, []}
use Rattle.std.specs.Prelude.{IfSome, slice_get, vec_len}
use Rattle.dictionary.specs.AcceptedParts.{accepted}
use Rattle.dep_index.specs.Readers.{readers_of}
use Rattle.recalc.specs.PlacedReaders.{ArePlaced}
use Rattle.recalc.proofs.placed_readers.place_readers.Given as goal

abbrev pub invariant-loop-place : goal.invariant-loop-place
invariant-loop-place l = record {
  count : vec_len l.rows ≡ l.place + 1;
  each : (fact : ℕ) → IfSome (slice_get l.rows.items fact) (ArePlaced (accepted l.dict) l.places fact (readers_of l.readers fact) []);
}
