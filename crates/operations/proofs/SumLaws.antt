-- A sum or a difference one value after another is that of the whole list.
use Rattle.std.proofs.Common.{◌≡◌, ℤ, ◌+ℤ◌, ◌-ℤ◌, List, [], ◌∷◌, refl, ap, ◌∙◌, arith}
use Rattle.std.proofs.lemmas.Int.{ints}
use Rattle.fact_values.specs.declared.value.Value.{Value}
use Rattle.fact_values.specs.declared.value.Value.TheVariants.{Int, Dollar, Rational}
use Rattle.fact_values.specs.Rationals.{Ratio, difference_of_ratios, sum_of_ratios}
use Rattle.fact_values.specs.Totals.{Sum, checked}
use Rattle.evaluation.specs.Operations.{difference_of, dollar_in, first_ratio, int_in, sum_of, total, value_as}
use Rattle.operations.specs.declared.sum.Summed.TheVariants.{Nothing, Ints, Dollars, First, Two}
use Rattle.operations.specs.Sums.{difference_with, minus, plus, starting_at, sum_with}

-- ---- sums

plus-zero : (e : ℤ) → e ≡ e +ℤ total int_in []
plus-zero e = omega (arith, ints)

plus-rest : (e n rest : ℤ) → (e +ℤ n) +ℤ rest ≡ e +ℤ (n +ℤ rest)
plus-rest e n rest = omega (arith, ints)

pub sum_with-ints : (sum : Sum) (vs : List Value) → sum_with (Ints sum) vs ≡ value_as Int (checked (sum.exact +ℤ total int_in vs))
sum_with-ints sum [] = ap (λ z. value_as Int (checked z)) (plus-zero sum.exact)
sum_with-ints sum (v ∷ vs) =
    sum_with-ints (plus sum (int_in v)) vs ∙ ap (λ z. value_as Int (checked z)) (plus-rest sum.exact (int_in v) (total int_in vs))

pub sum_with-dollars : (sum : Sum) (vs : List Value) → sum_with (Dollars sum) vs ≡ value_as Dollar (checked (sum.exact +ℤ total dollar_in vs))
sum_with-dollars sum [] = ap (λ z. value_as Dollar (checked z)) (plus-zero sum.exact)
sum_with-dollars sum (v ∷ vs) =
    sum_with-dollars (plus sum (dollar_in v)) vs ∙ ap (λ z. value_as Dollar (checked z)) (plus-rest sum.exact (dollar_in v) (total dollar_in vs))

-- two fractions stay as they are
sum_with-two : (q r : Ratio) (vs : List Value) → sum_with (Two q r) vs ≡ value_as Rational (sum_of_ratios q r)
sum_with-two q r [] = refl
sum_with-two q r (v ∷ vs) = sum_with-two q r vs

sum_with-first : (q : Ratio) (vs : List Value) → sum_with (First q) vs ≡ value_as Rational (sum_of_ratios q (first_ratio vs))
sum_with-first q [] = refl
sum_with-first q (v ∷ vs) = sum_with-two q (first_ratio (v ∷ vs)) vs

pub sum_with-start : (vs : List Value) → sum_with Nothing vs ≡ sum_of vs
sum_with-start [] = refl
sum_with-start (Dollar cents ∷ vs) = sum_with-dollars (starting_at cents) vs
sum_with-start (Rational q ∷ vs) = sum_with-first q vs
sum_with-start (v ∷ vs) = sum_with-ints (starting_at (int_in v)) vs

-- ---- differences

minus-zero : (e : ℤ) → e ≡ e -ℤ total int_in []
minus-zero e = omega (arith, ints)

minus-rest : (e n rest : ℤ) → (e -ℤ n) -ℤ rest ≡ e -ℤ (n +ℤ rest)
minus-rest e n rest = omega (arith, ints)

difference_with-ints : (sum : Sum) (vs : List Value) → difference_with (Ints sum) vs ≡ value_as Int (checked (sum.exact -ℤ total int_in vs))
difference_with-ints sum [] = ap (λ z. value_as Int (checked z)) (minus-zero sum.exact)
difference_with-ints sum (v ∷ vs) =
    difference_with-ints (minus sum (int_in v)) vs ∙ ap (λ z. value_as Int (checked z)) (minus-rest sum.exact (int_in v) (total int_in vs))

difference_with-dollars : (sum : Sum) (vs : List Value) → difference_with (Dollars sum) vs ≡ value_as Dollar (checked (sum.exact -ℤ total dollar_in vs))
difference_with-dollars sum [] = ap (λ z. value_as Dollar (checked z)) (minus-zero sum.exact)
difference_with-dollars sum (v ∷ vs) =
    difference_with-dollars (minus sum (dollar_in v)) vs ∙ ap (λ z. value_as Dollar (checked z)) (minus-rest sum.exact (dollar_in v) (total dollar_in vs))

difference_with-two : (q r : Ratio) (vs : List Value) → difference_with (Two q r) vs ≡ value_as Rational (difference_of_ratios q r)
difference_with-two q r [] = refl
difference_with-two q r (v ∷ vs) = difference_with-two q r vs

difference_with-first : (q : Ratio) (vs : List Value) → difference_with (First q) vs ≡ value_as Rational (difference_of_ratios q (first_ratio vs))
difference_with-first q [] = refl
difference_with-first q (v ∷ vs) = difference_with-two q (first_ratio (v ∷ vs)) vs

pub difference_with-start : (vs : List Value) → difference_with Nothing vs ≡ difference_of vs
difference_with-start [] = refl
difference_with-start (Dollar cents ∷ vs) = difference_with-dollars (starting_at cents) vs
difference_with-start (Rational q ∷ vs) = difference_with-first q vs
difference_with-start (v ∷ vs) = difference_with-ints (starting_at (int_in v)) vs
