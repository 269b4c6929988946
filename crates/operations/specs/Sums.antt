-- A sum or a difference one value after another, as loops take them.
use Rattle.std.specs.Prelude.{ℕ, ◌+◌, ℤ, pos, ◌+ℤ◌, ◌-ℤ◌, List, [], ◌∷◌, Result, Ok}
use Rattle.fact_values.specs.declared.fault.ValueFault.{ValueFault}
use Rattle.fact_values.specs.declared.value.Value.{Value}
use Rattle.fact_values.specs.declared.value.Value.TheVariants.{Int, Dollar, Rational}
use Rattle.fact_values.specs.Rationals.{difference_of_ratios, sum_of_ratios}
use Rattle.fact_values.specs.Totals.{Sum, checked}
use Rattle.evaluation.specs.Operations.{dollar_in, int_in, no_ratio, ratio_in, value_as}
use Rattle.operations.specs.declared.sum.Summed.{Summed}
use Rattle.operations.specs.declared.sum.Summed.TheVariants.{Nothing, Ints, Dollars, First, Two}

-- how many numbers were added or taken away
abbrev pub calls_in : Summed → ℕ
calls_in (Ints sum) = sum.calls
calls_in (Dollars sum) = sum.calls
calls_in _ = 0

abbrev pub starting_at : ℤ → Sum
starting_at first = record { exact = first; calls = 0 }

abbrev pub plus : Sum → ℤ → Sum
plus sum n = record { exact = sum.exact +ℤ n; calls = sum.calls + 1 }

abbrev pub minus : Sum → ℤ → Sum
minus sum n = record { exact = sum.exact -ℤ n; calls = sum.calls + 1 }

-- the first value says of which type they are
abbrev pub first_summed : Value → Summed
first_summed (Dollar cents) = Dollars (starting_at cents)
first_summed (Rational q) = First q
first_summed v = Ints (starting_at (int_in v))

abbrev pub added : Summed → Value → Summed
added Nothing v = first_summed v
added (Ints sum) v = Ints (plus sum (int_in v))
added (Dollars sum) v = Dollars (plus sum (dollar_in v))
added (First q) v = Two q (ratio_in v)
added (Two q r) v = Two q r

abbrev pub subtracted : Summed → Value → Summed
subtracted Nothing v = first_summed v
subtracted (Ints sum) v = Ints (minus sum (int_in v))
subtracted (Dollars sum) v = Dollars (minus sum (dollar_in v))
subtracted (First q) v = Two q (ratio_in v)
subtracted (Two q r) v = Two q r

abbrev pub sum_of_seen : Summed → Result Value ValueFault
sum_of_seen Nothing = Ok (Int (pos 0))
sum_of_seen (Ints sum) = value_as Int (checked sum.exact)
sum_of_seen (Dollars sum) = value_as Dollar (checked sum.exact)
sum_of_seen (First q) = value_as Rational (sum_of_ratios q no_ratio)
sum_of_seen (Two q r) = value_as Rational (sum_of_ratios q r)

abbrev pub difference_of_seen : Summed → Result Value ValueFault
difference_of_seen Nothing = Ok (Int (pos 0))
difference_of_seen (Ints sum) = value_as Int (checked sum.exact)
difference_of_seen (Dollars sum) = value_as Dollar (checked sum.exact)
difference_of_seen (First q) = value_as Rational (difference_of_ratios q no_ratio)
difference_of_seen (Two q r) = value_as Rational (difference_of_ratios q r)

-- the sum, with the values that are left
abbrev pub sum_with : Summed → List Value → Result Value ValueFault
sum_with sum [] = sum_of_seen sum
sum_with sum (v ∷ vs) = sum_with (added sum v) vs

-- the difference, with the values that are left
abbrev pub difference_with : Summed → List Value → Result Value ValueFault
difference_with sum [] = difference_of_seen sum
difference_with sum (v ∷ vs) = difference_with (subtracted sum v) vs
