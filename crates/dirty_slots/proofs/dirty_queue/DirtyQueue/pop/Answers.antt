use Rattle.std.proofs.Common.{◌≡◌, ℕ, not, ◌&&◌, nat_eq, sym, ap, subst, ◌∙◌, arith}
use Rattle.std.proofs.lemmas.Option.{slice_get_within}
use Rattle.dirty_slots.specs.PlaceBits.{has_place}
use Rattle.dirty_slots.specs.Waiting.{dirty_same, is_unplaced, Unplaced}
use Rattle.dirty_slots.proofs.MarkLaws.{all_placed_before, only_least, other_least, other_none, other_rest, other_taken, placed_least, placed_taken, placed_waits}
use Rattle.dirty_slots.proofs.dirty_queue.DirtyQueue.pop.Goals as goal

-- no place is marked

pub returns-in-None-clause-none : goal.returns-in-None-clause-none
returns-in-None-clause-none c = rw (← c.self.view_is) (other_none (has_place c.self.inside.placed) c.self.inside.places.value (is_unplaced c.self.inside.unplaced)
    (λ i l. c.first-place.ensures.none_before i (all_placed_before c.self.inside.places.value c.first-place.result (sym (rw c.deref.ensures at c.in-None.ensures.slot)) i l)) c.pop.result c.pop.ensures.none)

pub returns-in-None-clause-rest : goal.returns-in-None-clause-rest
returns-in-None-clause-rest c = rw (← c.self.view_is, c.first-place.ensures.unchanged) (other_rest (has_place c.self.inside.placed) c.self.inside.places.value (is_unplaced c.self.inside.unplaced)
    (λ i l. c.first-place.ensures.none_before i (all_placed_before c.self.inside.places.value c.first-place.result (sym (rw c.deref.ensures at c.in-None.ensures.slot)) i l)) c.pop.result (is_unplaced c.pop.new.self) c.pop.ensures.rest)

pub returns-in-None-clause-least : goal.returns-in-None-clause-least
returns-in-None-clause-least c = rw (← c.self.view_is) (only_least (has_place c.self.inside.placed) c.self.inside.places.value (is_unplaced c.self.inside.unplaced)
    (λ i l. c.first-place.ensures.none_before i (all_placed_before c.self.inside.places.value c.first-place.result (sym (rw c.deref.ensures at c.in-None.ensures.slot)) i l)) c.pop.result c.pop.ensures.least)

-- one of the others is lower than the first that is marked

pub returns-in-Some-pop_below-clause-rest : goal.returns-in-Some-pop_below-clause-rest
returns-in-Some-pop_below-clause-rest c = rw (← c.self.view_is, c.first-place.ensures.unchanged) (λ q. other_taken (has_place c.self.inside.placed) c.self.inside.places.value (is_unplaced c.self.inside.unplaced)
    c.first-place.result c.in-Some.dirty (rw c.deref.ensures at c.in-Some.ensures.rising) (sym (rw c.deref.ensures at c.in-Some.ensures.slot)) c.first-place.ensures.none_before
    c.in-Some-pop_below.lower c.in-Some-pop_below.ensures.below (is_unplaced c.pop_below.new.self) q (c.in-Some-pop_below.ensures.rest q))

pub returns-in-Some-pop_below-clause-least : goal.returns-in-Some-pop_below-clause-least
returns-in-Some-pop_below-clause-least c = rw (← c.self.view_is) (other_least (has_place c.self.inside.placed) c.self.inside.places.value (is_unplaced c.self.inside.unplaced)
    c.first-place.result c.in-Some.dirty (rw c.deref.ensures at c.in-Some.ensures.rising) (sym (rw c.deref.ensures at c.in-Some.ensures.slot)) c.first-place.ensures.none_before
    c.in-Some-pop_below.lower c.in-Some-pop_below.ensures.below c.in-Some-pop_below.ensures.least)

-- none is

pub returns-in-None-pop_below-clause-some : goal.returns-in-None-pop_below-clause-some
returns-in-None-pop_below-clause-some c = rw (← c.self.view_is) (placed_waits (has_place c.self.inside.placed) c.self.inside.places.value (is_unplaced c.self.inside.unplaced)
    c.first-place.result c.in-Some.dirty (rw c.deref.ensures at c.in-Some.ensures.rising) (sym (rw c.deref.ensures at c.in-Some.ensures.slot)) c.first-place.ensures.none_before
    (c.first-place.ensures.first (omega (arith, slice_get_within c.self.inside.places.value c.first-place.result c.in-Some.dirty (sym (rw c.deref.ensures at c.in-Some.ensures.slot)), c.self.invariant))))

pub returns-in-None-pop_below-clause-rest : goal.returns-in-None-pop_below-clause-rest
returns-in-None-pop_below-clause-rest c = rw (← c.self.view_is) (λ q. placed_taken (has_place c.self.inside.placed) c.self.inside.places.value (is_unplaced c.self.inside.unplaced)
    c.first-place.result c.in-Some.dirty (rw c.deref.ensures at c.in-Some.ensures.rising) (sym (rw c.deref.ensures at c.in-Some.ensures.slot)) c.first-place.ensures.none_before
    (has_place c.remove.new.self) (is_unplaced c.remove-in-None-pop_below.new.self)
    (subst (λ w. (i : ℕ) → has_place c.remove.new.self i ≡ (has_place w i && not (nat_eq i c.first-place.result))) c.first-place.ensures.unchanged c.remove.ensures.places) q
    (c.remove-in-None-pop_below.ensures q ∙ ap (λ (u : Unplaced). is_unplaced u q && not (dirty_same q c.in-Some.dirty)) c.in-None-pop_below.ensures.unchanged))

pub returns-in-None-pop_below-clause-least : goal.returns-in-None-pop_below-clause-least
returns-in-None-pop_below-clause-least c = rw (← c.self.view_is) (placed_least (has_place c.self.inside.placed) c.self.inside.places.value (is_unplaced c.self.inside.unplaced)
    c.first-place.result c.in-Some.dirty (rw c.deref.ensures at c.in-Some.ensures.rising) (sym (rw c.deref.ensures at c.in-Some.ensures.slot)) c.first-place.ensures.none_before c.in-None-pop_below.ensures.none)
