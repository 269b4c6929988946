-- The plain numbers of cells.
use Rattle.std.proofs.Common.{◌≡◌, ◌≢◌, ◌<◌, ℕ, zero, suc, ℤ, true, cond, List, [], ◌∷◌, ◌++◌, length, map as each, Option, Some, None, option_map, refl, sym, ap, ◌∙◌, arith}
use Rattle.std.specs.Prelude.{◌&&◌, nat_eq, nat_lt, slice_get, slice_index_or, slice_set, unwrap_or, IfSome}
use Rattle.std.specs.FinMap as map
use Rattle.std.proofs.lemmas.Bool.Decides.{nat_tests}
use Rattle.std.proofs.lemmas.List.{map-set}
use Rattle.fact_values.specs.declared.slot.Slot.{Slot}
use Rattle.fact_values.specs.declared.value.Value.TheVariants.{Dollar, Int}
use Rattle.three_state.specs.declared.res.Res.{Res}
use Rattle.three_state.specs.declared.res.Res.TheVariants.{Complete, Incomplete}
use Rattle.cell_store.specs.Contents.{Cells}
use Rattle.cell_store.specs.Globals.{with_globals}
use Rattle.cell_store.specs.Numbers.{amount_in, number_in, number_of, whole_in}
use Rattle.cell_store.specs.declared.cell.Cell.{Cell}
use Rattle.cell_store.specs.declared.number.CellNumber.{CellNumber}
use Rattle.cell_store.specs.declared.number.CellNumber.TheVariants.{Other}
use Rattle.cell_store.proofs.GlobalLaws.{get_with_globals}

-- ---- the column

pub get_number : (gs : List (Option Cell)) (f : ℕ) → slice_get (each number_of gs) f ≡ option_map number_of (slice_get gs f)
get_number [] f = refl
get_number (g ∷ gs) zero = refl
get_number (g ∷ gs) (suc f) = get_number gs f

pub set_number : (gs : List (Option Cell)) (f : ℕ) (o : Option Cell) → each number_of (slice_set gs f o) ≡ slice_set (each number_of gs) f (number_of o)
set_number gs f o = map-set number_of gs f o

pub pushed_number : (gs : List (Option Cell)) → each number_of (gs ++ None ∷ []) ≡ each number_of gs ++ Other ∷ []
pushed_number [] = refl
pushed_number (g ∷ gs) = ap (λ ns. number_of g ∷ ns) (pushed_number gs)

-- ---- what is found

below : (gs : List (Option Cell)) (f : ℕ) (n : CellNumber) → Some n ≡ option_map number_of (slice_get gs f) → f < length gs
below [] f n h = absurd cc
below (g ∷ gs) zero n h = omega arith
below (g ∷ gs) (suc f) n h = omega (arith, below gs f n h)

same_place : (gs : List (Option Cell)) (f : ℕ) (n : CellNumber) → Some n ≡ option_map number_of (slice_get gs f) → n ≡ number_of (slice_index_or gs f None)
same_place [] f n h = absurd cc
same_place (g ∷ gs) zero n h = cc
same_place (g ∷ gs) (suc f) n h = same_place gs f n h

pub number_found : (gs : List (Option Cell)) (m : Cells) (f : ℕ) (n : CellNumber) → Some n ≡ option_map number_of (slice_get gs f) → n ≡ number_of (map.get (with_globals gs m) (record { fact = f; member = 0 }))
number_found gs m f n h =
    let s : Slot = record { fact = f; member = 0 } in
    let there : nat_lt f (length gs) ≡ true = (let l : f < length gs = below gs f n h in grind (arith, nat_tests)) in
    same_place gs f n h
    ∙ sym (ap number_of (get_with_globals gs m s ∙ ap (λ b. cond (b && nat_eq 0 0) (slice_index_or gs f None) (map.get m s)) there))

-- ---- amounts and whole numbers

amount_is : (r : Res) → IfSome (amount_in (number_in r)) (λ n. Some r ≡ Some (Complete (Dollar n)))
amount_is (Complete (Dollar n)) = refl
amount_is _ = tt

pub some_amount : (o : Option Cell) → IfSome (amount_in (number_of o)) (λ n. option_map (λ c. c.res) o ≡ Some (Complete (Dollar n)))
some_amount None = tt
some_amount (Some c) = amount_is c.res

pub no_amount : (o : Option Cell) → amount_in (number_of o) ≡ None → (n : ℤ) → option_map (λ c. c.res) o ≢ Some (Complete (Dollar n))
no_amount None h n e = absurd cc
no_amount (Some c) h n e = absurd (let both : None ≡ Some n = sym h ∙ ap (λ r. amount_in (number_in (unwrap_or r Incomplete))) e in cc)

whole_is : (r : Res) → IfSome (whole_in (number_in r)) (λ n. Some r ≡ Some (Complete (Int n)))
whole_is (Complete (Int n)) = refl
whole_is _ = tt

pub some_whole : (o : Option Cell) → IfSome (whole_in (number_of o)) (λ n. option_map (λ c. c.res) o ≡ Some (Complete (Int n)))
some_whole None = tt
some_whole (Some c) = whole_is c.res

pub no_whole : (o : Option Cell) → whole_in (number_of o) ≡ None → (n : ℤ) → option_map (λ c. c.res) o ≢ Some (Complete (Int n))
no_whole None h n e = absurd cc
no_whole (Some c) h n e = absurd (let both : None ≡ Some n = sym h ∙ ap (λ r. whole_in (number_in (unwrap_or r Incomplete))) e in cc)

pub ruleset numbers = (get_number, set_number, pushed_number)

pub ruleset found = (get_with_globals, number_found)

pub ruleset read = (some_amount, no_amount, some_whole, no_whole)
