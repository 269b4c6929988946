use Rattle.std.proofs.Common.{◌≡◌, ◌||◌, ℕ, length, drop}
use Rattle.dirty_slots.specs.PlaceBits.{has_place, is_one, IsFromLeast}
use Rattle.dirty_slots.proofs.place_bits.set_places.Given as goal

abbrev pub invariant-loop-place : goal.invariant-loop-place
invariant-loop-place l = record {
  least : IsFromLeast l.words l.least;
  bits : length l.words ≡ length l.initial.words;
  places : (i : ℕ) → (is_one (drop l.place-index l.places) i || has_place l.words i) ≡ (is_one l.places i || has_place l.initial.words i);
}
