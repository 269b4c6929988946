-- Numbers of one type that an Add sees one after another.
use Rattle.std.proofs.Common.{◌≡◌, ℕ, ◌+◌, ℤ, Bool, true, false, refl}
use Rattle.fact_values.specs.Totals.{Sum}
use Rattle.fact_values.specs.declared.value.Value.TheVariants.{Dollar, Int}
use Rattle.three_state.specs.declared.res.Res.TheVariants.{Complete}
use Rattle.operations.specs.ManyFolds.{accumulator_next, saw}
use Rattle.operations.specs.NumberRuns.{are_amounts, are_wholes, numbers_seen}
use Rattle.operations.specs.Sums.{plus}

-- an amount of money after others
pub amount_seen : (count : ℕ) (are : Bool) (sum : Sum) (cents : ℤ) → are_amounts (numbers_seen count are sum).kept ≡ true
    → saw (numbers_seen count are sum) (Complete (Dollar cents)) ≡ numbers_seen (count + 1) are (plus sum cents)
unfolding accumulator_next
amount_seen count true sum cents h = refl
amount_seen count false sum cents h = absurd cc

-- a whole number after others
pub whole_seen : (count : ℕ) (are : Bool) (sum : Sum) (n : ℤ) → are_wholes (numbers_seen count are sum).kept ≡ true
    → saw (numbers_seen count are sum) (Complete (Int n)) ≡ numbers_seen (count + 1) are (plus sum n)
unfolding accumulator_next
whole_seen count false sum n h = refl
whole_seen count true sum n h = absurd cc

-- the type doesn't hang on the numbers
pub amounts_stay : (count : ℕ) (are : Bool) (sum next : Sum) → are_amounts (numbers_seen count are sum).kept ≡ true → are_amounts (numbers_seen (count + 1) are next).kept ≡ true
amounts_stay count true sum next h = refl
amounts_stay count false sum next h = absurd cc

pub wholes_stay : (count : ℕ) (are : Bool) (sum next : Sum) → are_wholes (numbers_seen count are sum).kept ≡ true → are_wholes (numbers_seen (count + 1) are next).kept ≡ true
wholes_stay count false sum next h = refl
wholes_stay count true sum next h = absurd cc

pub ruleset runs = (amount_seen, whole_seen, amounts_stay, wholes_stay)
