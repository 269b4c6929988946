-- The order of slots, and cells at slots.
use Rattle.std.proofs.Common.{◌≡◌, ◌≢◌, ℕ, Bool, true, false, cond, Option, Some, None, refl, sym, ap, ◌∙◌}
use Rattle.std.specs.Prelude.{nat_eq, ◌&&◌}
use Rattle.std.specs.Ordering.{eq_by_cmp, is_eq}
use Rattle.std.specs.Cmp.{IsTotalOrder, both_tied, first_so, nat_cmp_total, on_total, second_so, then_total, unsigned_ties}
use Rattle.std.specs.FinMap as map
use Rattle.fact_values.specs.declared.slot.Slot.{Slot}
use Rattle.common_lemmas.proofs.Numbers.{equal_number, same_number}
use Rattle.cell_store.specs.Contents.{Cells}
use Rattle.cell_store.specs.Laws.{PutChangesOneSlot, TakeChangesOneSlot}
use Rattle.cell_store.specs.declared.cell.Cell.{Cell}
use Rattle.cell_store.specs.Places.{key_of, put_at, same_key}
use Rattle.cell_store.specs.SlotOrder.{slot_cmp}

pub slot_cmp_total : IsTotalOrder slot_cmp
slot_cmp_total = then_total (on_total (λ (s : Slot). s.fact) nat_cmp_total) (on_total (λ (s : Slot). s.member) nat_cmp_total)

pub ties : (s t : Slot) → eq_by_cmp slot_cmp s t ≡ same_key (key_of s) (key_of t)
ties s t = sym (both_tied _ _ _ _ (unsigned_ties s.fact t.fact) (unsigned_ties s.member t.member))

slot : ℕ → ℕ → Slot
slot f m = record { fact = f; member = m }

pub same_slot : (s t : Slot) → same_key (key_of s) (key_of t) ≡ true → s ≡ t
unfolding slot
same_slot s t h =
    let f : s.fact ≡ t.fact = same_number _ _ (first_so (nat_eq s.fact t.fact) (nat_eq s.member t.member) h) in
    let m : s.member ≡ t.member = same_number _ _ (second_so (nat_eq s.fact t.fact) (nat_eq s.member t.member) h) in
    ap (λ f. slot f s.member) f ∙ ap (slot t.fact) m

pub slot_cmp-IsAntisymmetric : map.IsAntisymmetric slot_cmp
slot_cmp-IsAntisymmetric s t e = same_slot s t (sym (ties s t) ∙ ap is_eq e)

-- cells that are the same at each slot
pub same_cells : (m n : Cells) → ((q : Slot) → map.get m q ≡ map.get n q) → m ≡ n
same_cells m n h = map.same_map slot_cmp_total slot_cmp-IsAntisymmetric m n h

pub get_put_at : (m : Cells) (s : Slot) (o : Option Cell) (q : Slot) → map.get (put_at m s o) q ≡ cond (same_key (key_of q) (key_of s)) o (map.get m q)
get_put_at m s None q = map.get-remove slot_cmp_total m s q ∙ ap (λ b. cond b None (map.get m q)) (ties q s)
get_put_at m s (Some c) q = map.get-insert slot_cmp_total m s c q ∙ ap (λ b. cond b (Some c) (map.get m q)) (ties q s)

-- another slot has another key
other_slot : (q s : Slot) → q ≢ s → (b : Bool) → same_key (key_of q) (key_of s) ≡ b → b ≡ false
other_slot q s apart true h = absurd (apart (same_slot q s h))
other_slot q s apart false h = refl

own_slot : (s : Slot) → same_key (key_of s) (key_of s) ≡ true
own_slot s = λ i. equal_number s.fact i && equal_number s.member i

put_changes : (m : Cells) (s : Slot) (o : Option Cell) → (map.get (put_at m s o) s ≡ o) × ((q : Slot) → q ≢ s → map.get (put_at m s o) q ≡ map.get m q)
put_changes m s o = (
  get_put_at m s o s ∙ ap (λ b. cond b o (map.get m s)) (own_slot s),
  λ q apart. get_put_at m s o q ∙ ap (λ b. cond b o (map.get m q)) (other_slot q s apart (same_key (key_of q) (key_of s)) refl),
)

pub put_changes_one_slot : PutChangesOneSlot
put_changes_one_slot m s c = put_changes m s (Some c)

pub take_changes_one_slot : TakeChangesOneSlot
take_changes_one_slot m s = put_changes m s None
