-- Which readers of a fact stand as places of the queue.
use Rattle.std.specs.Prelude.{◌≡◌, ◌+◌, ◌<◌, ℕ, Bool, not, ◌||◌, nat_eq, IsTrue, List, [], length, All, IfSome, slice_get}
use Rattle.std.specs.List.{list_any}
use Rattle.dep_index.specs.Readers.{readers_of}
use Rattle.dep_index.specs.declared.readers_of.ReaderOf.{ReaderOf}
use Rattle.dict_source.specs.Finding.{IsNumber}
use Rattle.dict_meaning.specs.Accepted.{Accepted}
use Rattle.dict_meaning.specs.Homes.{home}
use Rattle.dirty_slots.specs.Places.{is_at_any}
use Rattle.dirty_slots.specs.Waiting.{dirty_same, DirtySlots, is_dirty}
use Rattle.dirty_slots.specs.declared.dirty_slot.DirtySlot.{DirtySlot}
use Rattle.evaluation.specs.Results.{slot}
use Rattle.recalc.specs.Readers.{dirty_of}
use Rattle.recalc.specs.declared.placed_readers.PlacedReaders.{PlacedReaders}

-- the slot of a reader that is a global fact
abbrev pub global_slot : Accepted → ReaderOf → DirtySlot
global_slot d r = dirty_of d (slot r.fact 0)

-- the reader is a global fact, and reads each slot of this fact
pub record IsGlobal (d : Accepted) (fact : ℕ) (r : ReaderOf) : Type 0 where
  pub global : home d.tree r.fact ≡ 0
  pub reads : IsTrue (not r.same || nat_eq (home d.tree fact) 0)

-- so, and its slot is at this place
pub record IsPlaced (d : Accepted) (places : DirtySlots) (fact : ℕ) (r : ReaderOf) (place : ℕ) : Type 0 where
  pub global : IsGlobal d fact r
  pub there : IsTrue (is_dirty (slice_get places place) (global_slot d r))

-- of all readers of a fact but for those left, some are global facts and stand as their places, and the others as they are
pub record ArePlaced (d : Accepted) (places : DirtySlots) (fact : ℕ) (all left : List ReaderOf) (p : PlacedReaders) : Type 0 where
  pub placed : List ReaderOf
  pub each : (test : ReaderOf → Bool) → list_any test all ≡ (list_any test placed || (list_any test p.others.items || list_any test left))
  pub global : All (IsGlobal d fact) placed
  pub slots : (q : DirtySlot) → is_at_any places p.places.items q ≡ list_any (λ r. dirty_same q (global_slot d r)) placed
  pub within : All (λ n. n < length places) p.places.items
  pub numbers : All (λ r. IsNumber d.tree.facts r.fact) p.others.items

-- so of each fact, by its number; there is a row for 0 too
pub record AllArePlaced (d : Accepted) (places : DirtySlots) (readers : List (List ReaderOf)) (rows : List PlacedReaders) : Type 0 where
  pub count : length rows ≡ length d.tree.facts + 1
  pub each : (fact : ℕ) → IfSome (slice_get rows fact) (ArePlaced d places fact (readers_of readers fact) [])
