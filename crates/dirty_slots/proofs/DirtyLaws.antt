-- The order of what waits.
use Rattle.std.proofs.Common.{◌≡◌, ℕ, ◌<◌, ◌≤◌, Bool, true, false, not, cond, ◌&&◌, ◌||◌, nat_eq, [], ◌∷◌, refl, sym, ap, ◌∙◌, arith}
use Rattle.std.specs.List.{list_any}
use Rattle.std.specs.Ordering.{nat_cmp, is_eq, is_gt, ordering_then}
use Rattle.std.specs.declared.cmp.Ordering.{Ordering}
use Rattle.std.specs.declared.cmp.Ordering.TheVariants.{Less, Equal, Greater}
use Rattle.std.proofs.lemmas.Bool.Decides.{nat_tests}
use Rattle.common_lemmas.proofs.Numbers.{nat_eq-comm}
use Rattle.common_lemmas.proofs.Bools.{cond_or}
use Rattle.dirty_slots.specs.Slots.{dirty_same, DirtySlots, is_among}
use Rattle.dirty_slots.specs.declared.dirty_slot.DirtySlot.{DirtySlot}

abbrev pub dirty_cmp : DirtySlot → DirtySlot → Ordering
dirty_cmp p q = ordering_then (nat_cmp p.rank q.rank) (ordering_then (nat_cmp p.fact q.fact) (nat_cmp p.member q.member))

then_eq : (x y : Ordering) → is_eq (ordering_then x y) ≡ (is_eq x && is_eq y)
then_eq Less y = refl
then_eq Equal y = refl
then_eq Greater y = refl

cmp_eq : (a b : ℕ) → is_eq (nat_cmp a b) ≡ nat_eq a b
cmp_eq a b = grind (arith, nat_tests)

pub same_cmp : (p q : DirtySlot) → dirty_same p q ≡ is_eq (dirty_cmp p q)
same_cmp p q = sym (then_eq (nat_cmp p.rank q.rank) (ordering_then (nat_cmp p.fact q.fact) (nat_cmp p.member q.member))
    ∙ rw (then_eq, cmp_eq, cmp_eq, cmp_eq) refl)

then_gt : (x y : Ordering) → is_gt (ordering_then x y) ≡ false → is_gt x ≡ false
then_gt Less y h = refl
then_gt Equal y h = refl
then_gt Greater y h = h

cmp_gt : (a b : ℕ) → is_gt (nat_cmp a b) ≡ false → a ≤ b
cmp_gt a b h = grind (arith, nat_tests)

pub rank_le : (p q : DirtySlot) → is_gt (dirty_cmp p q) ≡ false → p.rank ≤ q.rank
rank_le p q h = cmp_gt p.rank q.rank (then_gt (nat_cmp p.rank q.rank) (ordering_then (nat_cmp p.fact q.fact) (nat_cmp p.member q.member)) h)

pub waits_cmp : (ds : DirtySlots) (q : DirtySlot) → is_among ds q ≡ list_any (λ k. is_eq (dirty_cmp q k)) ds
waits_cmp [] q = refl
waits_cmp (d ∷ ds) q = rw (same_cmp q d, waits_cmp ds q) refl

pub dirty_turn : (p q : DirtySlot) → dirty_same p q ≡ dirty_same q p
dirty_turn p q = rw (nat_eq-comm p.rank q.rank, nat_eq-comm p.fact q.fact, nat_eq-comm p.member q.member) refl

and_not : (a b : Bool) → cond a false b ≡ (b && not a)
and_not true true = refl
and_not true false = refl
and_not false true = refl
and_not false false = refl

-- what is taken out, by the set's own tests
pub taken : (old new : DirtySlots) (dirty q : DirtySlot) → list_any (λ k. is_eq (dirty_cmp q k)) new ≡ cond (is_eq (dirty_cmp dirty q)) false (list_any (λ k. is_eq (dirty_cmp q k)) old) → is_among new q ≡ (is_among old q && not (dirty_same q dirty))
taken old new dirty q h = waits_cmp new q ∙ h ∙ and_not (is_eq (dirty_cmp dirty q)) (list_any (λ k. is_eq (dirty_cmp q k)) old) ∙ rw (← waits_cmp old q, ← same_cmp dirty q, dirty_turn dirty q) refl

-- an insert, by the set's own tests
pub added : (old new : DirtySlots) (dirty q : DirtySlot) → list_any (λ k. is_eq (dirty_cmp q k)) new ≡ cond (is_eq (dirty_cmp dirty q)) true (list_any (λ k. is_eq (dirty_cmp q k)) old) → is_among new q ≡ (dirty_same q dirty || is_among old q)
added old new dirty q h = waits_cmp new q ∙ h ∙ cond_or (is_eq (dirty_cmp dirty q)) (list_any (λ k. is_eq (dirty_cmp q k)) old) ∙ ap (λ b. is_eq (dirty_cmp dirty q) || b) (sym (waits_cmp old q)) ∙ ap (λ b. b || is_among old q) (sym (same_cmp dirty q) ∙ dirty_turn dirty q)

pub lowest : (ds : DirtySlots) (dirty : DirtySlot) → ((q : DirtySlot) → list_any (λ k. is_eq (dirty_cmp q k)) ds ≡ true → is_gt (dirty_cmp dirty q) ≡ false) → (q : DirtySlot) → is_among ds q ≡ true → dirty.rank ≤ q.rank
lowest ds dirty h q i = rank_le dirty q (h q (sym (waits_cmp ds q) ∙ i))

-- the first one waits, so what is of the lowest rank is below what it is below
pub first_below : (ds : DirtySlots) (first : DirtySlot) (rank : ℕ) → list_any (λ k. is_eq (dirty_cmp first k)) ds ≡ true → first.rank < rank
    → (dirty : DirtySlot) → ((q : DirtySlot) → is_among ds q ≡ true → dirty.rank ≤ q.rank) → dirty.rank < rank
first_below ds first rank there below dirty least = let le = least first (waits_cmp ds first ∙ there) in omega arith
