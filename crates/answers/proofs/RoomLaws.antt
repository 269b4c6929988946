-- Laws of room: what stands has a place, and what there is room for.
use Rattle.std.proofs.Common.{◌≡◌, ℕ, Bool, true, false, Option, Some, None, refl, sym, ap, subst}
use Rattle.std.specs.Prelude.{nat_eq, IsSome, if◌then◌else◌}
use Rattle.std.specs.Map.{lookup}
use Rattle.std.specs.FinMap as map
use Rattle.fact_values.specs.declared.slot.Slot.{Slot}
use Rattle.fact_values.specs.declared.value.Value.{Value}
use Rattle.answers.specs.declared.edit.Side.{Side}
use Rattle.answers.specs.declared.sides.Sides.{Sides}
use Rattle.answers.specs.declared.entries.Entries.{Entries}
use Rattle.answers.specs.declared.parts.Parts.{Parts}
use Rattle.answers.specs.Finite.{and_then}
use Rattle.answers.specs.Answered.{Entry, Answered, of_side, value_of}
use Rattle.answers.specs.Change.{Change, sets, opens, closes, adds, takes, removes, puts_back, applied, inverse}
use Rattle.answers.specs.Meaning.{answered, entry_of, maybe_entry, sides_by_fact, side_of}
use Rattle.answers.specs.Room.{HasFact, HasMember, AtMember, SlotPlace, HasSlot, HasRoom, HasPlaces}
use Rattle.answers.proofs.FiniteLaws.{get_map_of}
use Rattle.answers.proofs.SideLaws.{side_at}

sides_there : (side : Side) (o : Option Sides) → IsSome (and_then (side_of side) o) → IsSome o
sides_there side (Some p) h = refl
sides_there side None h = h

-- what stands has a place
fact_place : (side : Side) (e : Entries) (f : ℕ) → IsSome (map.get (of_side side (entry_of e)) f) → HasFact e f
fact_place side e f h = sides_there side (lookup (nat_eq f) (sides_by_fact e)) (subst (λ o. IsSome o) (side_at side (sides_by_fact e) f) h)

member_place : (side : Side) (f : ℕ) (o : Option (Option Entries)) → IsSome (and_then (λ (e : Entry). map.get (of_side side e) f) (and_then maybe_entry o)) → AtMember o f
member_place side f (Some (Some e)) h = fact_place side e f h
member_place side f (Some None) h = absurd cc
member_place side f None h = absurd cc

pub slot_place : (side : Side) (p : Parts) (s : Slot) → IsSome (value_of side (answered p) s) → HasSlot p s
slot_place side p s = by (nat_eq s.member 0)
  where
    by : (b : Bool) → IsSome (and_then (λ (e : Entry). map.get (of_side side e) s.fact) (if b then Some (entry_of p.globals) else map.get (answered p).members s.member)) → SlotPlace b p s
    by true h = fact_place side p.globals s.fact h
    by false h = member_place side s.fact (lookup (nat_eq s.member) p.members.kept.entries)
        (subst (λ o. IsSome (and_then (λ (e : Entry). map.get (of_side side e) s.fact) o)) (get_map_of maybe_entry p.members.kept.entries s.member) h)

-- after a change there is room for its inverse
pub room_for_inverse : (c x : Change) (a : Answered) (p : Parts) → x ≡ inverse c a → answered p ≡ applied c a → HasPlaces c a p → HasRoom x p
room_for_inverse c x a p is after places = rw is (by c after places)
  where
    old : (side : Side) (s : Slot) (o : Option Value) → (IsSome o → HasSlot p s) → HasRoom (sets side s o) p
    old side s None there = tt
    old side s (Some v) there = there refl

    by : (d : Change) → answered p ≡ applied d a → HasPlaces d a p → HasRoom (inverse d a) p
    by (sets side s v) after h = old side s (value_of side a s) (h.1 side)
    by (opens c) after h = tt
    by (closes c) after h = h
    by (adds c) after h = tt
    by (takes c closed) after h = (h.0, subst (λ n. HasMember p.members n) (sym (ap (λ (b : Answered). b.next) after)) h.1)
    by (removes c m) after h = h.1
    by (puts_back c place m e) after h = tt
