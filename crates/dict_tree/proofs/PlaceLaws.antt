-- The place of a list of options, counted on from those that were passed.
use Rattle.std.proofs.Common.{◌≡◌, ℕ, suc, ◌+◌, List, ◌∷◌, length, Bool, true, false, cond, ltb, Option, Some, None, option_map, refl, ap, arith}
use Rattle.std.specs.Prelude.{bytes_eq}
use Rattle.std.specs.List.{position_or_len}
use Rattle.value_text.specs.Enums.{Listed, list_place, names_of}
use Rattle.value_text.proofs.ChoiceLaws.{past_first}

abbrev pub place_from : ℕ → Option ℕ → Option ℕ
place_from n o = option_map (λ k. n + k) o

pub place_from-zero : (o : Option ℕ) → place_from 0 o ≡ o
place_from-zero None = refl
place_from-zero (Some k) = ap (λ (j : ℕ). Some j) (omega arith)

zero_below : (m : ℕ) → ltb 0 (suc m) ≡ true
zero_below m = grind arith

pub place_here : (n : ℕ) (name : List ℕ) (e : Listed) (es : List Listed) → bytes_eq name e.name ≡ true → place_from n (list_place name (e ∷ es)) ≡ Some n
place_here n name e es h = rw (h, zero_below (length (names_of es))) (ap (λ (j : ℕ). Some j) (omega arith))

counted : (b : Bool) (n k : ℕ) → place_from n (cond b (Some (1 + k)) None) ≡ place_from (suc n) (cond b (Some k) None)
counted true n k = ap (λ (j : ℕ). Some j) (omega arith)
counted false n k = refl

pub place_behind : (n : ℕ) (name : List ℕ) (e : Listed) (es : List Listed) → bytes_eq name e.name ≡ false → place_from n (list_place name (e ∷ es)) ≡ place_from (suc n) (list_place name es)
place_behind n name e es h =
    let k = position_or_len (bytes_eq name) (names_of es) in
    rw (h, past_first k (length (names_of es))) (counted (ltb k (length (names_of es))) n k)
