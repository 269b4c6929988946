-- What the rate schedule and the child tax credit of a year give a household. Sources: the tax rate schedules of the instructions
-- of Form 1040, and the instructions of Schedule 8812, whose amounts are the same for 2023 and 2024. Total income stands for
-- modified adjusted gross income, and no part of the credit is refundable.
use Rattle.std.specs.Prelude.{ℕ, zero, suc, ◌+◌, ◌*◌, ℤ, pos, ◌+ℤ◌, ◌-ℤ◌, ◌*ℤ◌, int_lt, unsigned_abs, Bool, true, false, not, ◌&&◌, List, [], ◌∷◌, length, filter, Option, Some, None}
use Rattle.fact_values.specs.Rounding.{rounded}
use Rattle.tax_2023.specs.Household.{Cents, Dependent, Household, Status, jointly}
use Rattle.tax_2023.specs.Tables.{age_in, cents, greater_of, is_dependent, is_qualifying_child, lesser_of, status, taxable_income}
use Rattle.tax_income.specs.Bands.{Band, bands}
use Rattle.tax_income.specs.Years.{IncomeYear}

-- ---- the tax of the schedule

-- the part of an amount that is above an end, and of that what is not above another
abbrev pub part_above : ℕ → Cents → Cents
part_above low t = greater_of (pos 0) (t -ℤ cents low)

abbrev pub part_between : ℕ → Option ℕ → Cents → Cents
part_between low None t = part_above low t
part_between low (Some high) t = part_above low (lesser_of t (cents high))

-- the part of the amount in the band
abbrev pub part : Band → Cents → Cents
part b t = part_between b.above b.until t

-- exactly, in hundredths of a cent
abbrev pub exact_tax : List Band → Cents → ℤ
exact_tax [] t = pos 0
exact_tax (b ∷ bs) t = part b t *ℤ pos b.percent +ℤ exact_tax bs t

-- the tax of an amount, rounded once to the cent, at a tie away from zero
abbrev pub schedule : IncomeYear → Status → Cents → Cents
schedule y s t = rounded (exact_tax (bands y s) t) 100

unfoldable pub schedule_tax : IncomeYear → Household → Cents
schedule_tax y h = schedule y (status h) (taxable_income y.tables h)

-- ---- for whom there is a credit

-- whether a person has the number that the credit needs, by the number of the member
abbrev pub Numbered : Type 0
Numbered = ℕ → Bool

unfoldable pub is_credit_child : IncomeYear → Household → Numbered → Dependent → Bool
is_credit_child y h numbered p = is_qualifying_child y.tables h p && int_lt (age_in y.tables p.date_of_birth) (pos 17) && numbered p.member

unfoldable pub is_other_dependent : IncomeYear → Household → Numbered → Dependent → Bool
is_other_dependent y h numbered p = is_dependent y.tables h p && not (is_credit_child y h numbered p)

abbrev pub credit_children : IncomeYear → Household → Numbered → ℕ
credit_children y h numbered = length (filter (is_credit_child y h numbered) h.persons)

abbrev pub other_dependents : IncomeYear → Household → Numbered → ℕ
other_dependents y h numbered = length (filter (is_other_dependent y h numbered) h.persons)

-- ---- the credit

-- before limits
abbrev pub credit_base : IncomeYear → Household → Numbered → Cents
credit_base y h numbered = cents (2000 * credit_children y h numbered + 500 * other_dependents y h numbered)

-- in dollars
abbrev pub income_limit : Status → ℕ
income_limit jointly = 400000
income_limit _ = 200000

-- of total income over the limit
unfoldable pub excess : Household → Cents
excess h = part_above (income_limit (status h)) (h.earned_income +ℤ h.other_income)

-- the first number from n on at which the test is true, in at most so many steps; it is said whether that is n
abbrev pub first_from : ℕ → (ℕ → Bool) → ℕ → Bool → ℕ
first_from zero test n here = n
first_from (suc steps) test n true = n
first_from (suc steps) test n false = first_from steps test (suc n) (test (suc n))

abbrev pub covers : Cents → ℕ → Bool
covers amount n = not (int_lt (cents (1000 * n)) amount)

-- the least number of thousands that is not less than the amount; so many thousands as it has cents are enough
unfoldable pub thousands : Cents → ℕ
thousands amount = first_from (unsigned_abs amount) (covers amount) 0 (covers amount 0)

-- 50 for each
abbrev pub reduction : Household → Cents
reduction h = cents (50 * thousands (excess h))

-- the rest, not below 0 and at most the tax
unfoldable pub child_credit : IncomeYear → Household → Numbered → Cents
child_credit y h numbered = lesser_of (schedule_tax y h) (greater_of (pos 0) (credit_base y h numbered -ℤ reduction h))

abbrev pub tax_after_credits : IncomeYear → Household → Numbered → Cents
tax_after_credits y h numbered = schedule_tax y h -ℤ child_credit y h numbered
