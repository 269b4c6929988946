-- Cells with those of global facts put over them.
use Rattle.std.proofs.Common.{◌≡◌, ◌<◌, ℕ, zero, suc, Bool, true, false, true≢false, cond, List, [], ◌∷◌, ◌++◌, length, Option, Some, None, refl, sym, ap, ◌∙◌, arith, length-set}
use Rattle.std.specs.Prelude.{◌&&◌, ◌||◌, nat_eq, nat_lt, slice_index_or, slice_set}
use Rattle.std.specs.Cmp.{first_so, second_so}
use Rattle.std.specs.FinMap as map
use Rattle.std.proofs.lemmas.Bool.{both_ways, le-ltb}
use Rattle.std.proofs.lemmas.Bool.Decides.{nat_tests}
use Rattle.std.proofs.lemmas.List.{get_or-set_other, get_or-set_same}
use Rattle.fact_values.specs.declared.slot.Slot.{Slot}
use Rattle.common_lemmas.proofs.Numbers.{same_number}
use Rattle.cell_store.specs.Contents.{Cells, no_cells}
use Rattle.cell_store.specs.Globals.{is_below, is_global, with_first, with_globals}
use Rattle.cell_store.specs.Places.{key_of, put_at, same_key}
use Rattle.cell_store.specs.declared.cell.Cell.{Cell}
use Rattle.cell_store.proofs.PlaceLaws.{equal_keys}
use Rattle.cell_store.proofs.SlotLaws.{get_put_at, same_cells, same_slot}

below_more : (f n : ℕ) → nat_lt f (suc n) ≡ (nat_eq f n || nat_lt f n)
below_more f n = grind (arith, nat_tests)

-- what is found at a slot: the global fact's cell where its number is among the first, and else what was there
get_with_first : (gs : List (Option Cell)) (n : ℕ) (m : Cells) (q : Slot) → map.get (with_first gs n m) q ≡ cond (is_below n q) (slice_index_or gs q.fact None) (map.get m q)
get_with_first gs zero m q = ap (λ b. cond (b && nat_eq q.member 0) (slice_index_or gs q.fact None) (map.get m q)) (sym (le-ltb q.fact 0 (omega arith)))
get_with_first gs (suc n) m q = get_put_at (with_first gs n m) (record { fact = n; member = 0 }) (slice_index_or gs n None) q
    ∙ ap (cond (same_key (key_of q) (n, 0)) (slice_index_or gs n None)) (get_with_first gs n m q)
    ∙ joined (nat_eq q.fact n) (nat_lt q.fact n) (nat_eq q.member 0) _ _ _ (λ e. ap (λ f. slice_index_or gs f None) (sym (same_number q.fact n e)))
    ∙ ap (λ b. cond (b && nat_eq q.member 0) (slice_index_or gs q.fact None) (map.get m q)) (sym (below_more q.fact n))
  where
    joined : (same less once : Bool) (a b x : Option Cell) → (same ≡ true → a ≡ b) → cond (same && once) a (cond (less && once) b x) ≡ cond ((same || less) && once) b x
    joined true less true a b x h = h refl
    joined true true false a b x h = refl
    joined true false false a b x h = refl
    joined false less once a b x h = refl

pub get_with_globals : (gs : List (Option Cell)) (m : Cells) (q : Slot) → map.get (with_globals gs m) q ≡ cond (is_global gs q) (slice_index_or gs q.fact None) (map.get m q)
get_with_globals gs m q = get_with_first gs (length gs) m q

-- where no global fact has a cell, none is put over what was there
pub with_none : (gs : List (Option Cell)) → ((f : ℕ) → slice_index_or gs f None ≡ None) → with_globals gs no_cells ≡ no_cells
with_none gs h = same_cells _ _ (λ q. get_with_globals gs no_cells q ∙ ap (λ o. cond (is_global gs q) o (map.get no_cells q)) (h q.fact) ∙ at (is_global gs q) _ (map.get-empty _ q))
  where
    at : (b : Bool) (o : Option Cell) → o ≡ None → cond b None o ≡ o
    at true o e = sym e
    at false o e = refl

pub get_pushed_none : (gs : List (Option Cell)) (f : ℕ) → slice_index_or (gs ++ None ∷ []) f None ≡ slice_index_or gs f None
get_pushed_none [] zero = refl
get_pushed_none [] (suc f) = refl
get_pushed_none (g ∷ gs) zero = refl
get_pushed_none (g ∷ gs) (suc f) = get_pushed_none gs f

global_below : (gs : List (Option Cell)) (s : Slot) → is_global gs s ≡ true → s.fact < length gs
global_below gs s h = let below : nat_lt s.fact (length gs) ≡ true = first_so _ (nat_eq s.member 0) h in grind (arith, nat_tests)

-- a change at a slot of the others
put_other : (gs : List (Option Cell)) (m : Cells) (s : Slot) (o : Option Cell) → is_global gs s ≡ false → with_globals gs (put_at m s o) ≡ put_at (with_globals gs m) s o
put_other gs m s o h = same_cells _ _ (λ q.
    get_with_globals gs (put_at m s o) q
    ∙ ap (cond (is_global gs q) (slice_index_or gs q.fact None)) (get_put_at m s o q)
    ∙ turned (is_global gs q) (same_key (key_of q) (key_of s)) _ _ _ (λ e. ap (is_global gs) (same_slot q s e) ∙ h)
    ∙ ap (cond (same_key (key_of q) (key_of s)) o) (sym (get_with_globals gs m q))
    ∙ sym (get_put_at (with_globals gs m) s o q))
  where
    turned : (g k : Bool) (a b x : Option Cell) → (k ≡ true → g ≡ false) → cond g a (cond k b x) ≡ cond k b (cond g a x)
    turned true true a b x h = absurd (true≢false (h refl))
    turned true false a b x h = refl
    turned false k a b x h = refl

pub insert_other : (gs : List (Option Cell)) (m : Cells) (s : Slot) (c : Cell) → is_global gs s ≡ false → with_globals gs (map.insert m s c) ≡ map.insert (with_globals gs m) s c
insert_other gs m s c h = put_other gs m s (Some c) h

pub remove_other : (gs : List (Option Cell)) (m : Cells) (s : Slot) → is_global gs s ≡ false → with_globals gs (map.remove m s) ≡ map.remove (with_globals gs m) s
remove_other gs m s h = put_other gs m s None h

-- a change at a global fact
pub put_global : (gs : List (Option Cell)) (m : Cells) (s : Slot) (o : Option Cell) → is_global gs s ≡ true → with_globals (slice_set gs s.fact o) m ≡ put_at (with_globals gs m) s o
put_global gs m s o h = same_cells _ _ (λ q.
    get_with_globals (slice_set gs s.fact o) m q
    ∙ ap (λ n. cond (is_below n q) (slice_index_or (slice_set gs s.fact o) q.fact None) (map.get m q)) (length-set gs s.fact o)
    ∙ at q (is_global gs q) refl (same_key (key_of q) (key_of s)) refl
    ∙ ap (cond (same_key (key_of q) (key_of s)) o) (sym (get_with_globals gs m q))
    ∙ sym (get_put_at (with_globals gs m) s o q))
  where
    once : (q : Slot) → is_global gs q ≡ true → q.member ≡ 0
    once q g = same_number _ _ (second_so (nat_lt q.fact (length gs)) _ g)

    other : (q : Slot) → is_global gs q ≡ true → same_key (key_of q) (key_of s) ≡ false → q.fact ≡ s.fact → ⊥
    other q g k e = both_ways (same_key (key_of q) (key_of s)) k (equal_keys (key_of q) (key_of s) (λ i. (e i, (once q g ∙ sym (once s h)) i)))

    at : (q : Slot) (g : Bool) → is_global gs q ≡ g → (k : Bool) → same_key (key_of q) (key_of s) ≡ k
        → cond g (slice_index_or (slice_set gs s.fact o) q.fact None) (map.get m q) ≡ cond k o (cond g (slice_index_or gs q.fact None) (map.get m q))
    at q true g true k = ap (λ t. slice_index_or (slice_set gs s.fact o) t.fact None) (same_slot q s k) ∙ get_or-set_same gs s.fact o None (global_below gs s h)
    at q true g false k = get_or-set_other gs s.fact q.fact o None (other q g k)
    at q false g true k = absurd (true≢false (sym h ∙ ap (is_global gs) (sym (same_slot q s k)) ∙ g))
    at q false g false k = refl

pub ruleset globals = (get_with_globals, get_pushed_none, insert_other, put_global, remove_other, with_none)
