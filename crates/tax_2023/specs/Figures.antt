-- The figures of a year, from its tables.
use Rattle.std.specs.Prelude.{ℕ, zero, suc, ◌+◌, ◌-◌, ◌/◌, ◌%◌, nat_lt, List, [], ◌∷◌, ◌++◌, codes, if◌then◌else◌}
use Rattle.written_facts.specs.Figures.{Named}
use Rattle.tax_2023.specs.Household.{single, separately, jointly, head_of_household}
use Rattle.tax_2023.specs.Years.{Year}

-- the digits of a number that has at most so many
abbrev pub digits : ℕ → ℕ → List ℕ
digits zero n = []
digits (suc most) n = if nat_lt n 10 then (48 + n) ∷ [] else digits most (n / 10) ++ (48 + n % 10) ∷ []

-- an amount in dollars, as a dictionary spells it
unfoldable pub spelled_dollars : ℕ → List ℕ
spelled_dollars n = digits 13 n ++ codes ".00"

-- a day of a year, behind whose number the month and the day stand, as `-12-31`
unfoldable pub spelled_day : ℕ → List ℕ → List ℕ
spelled_day year month_and_day = digits 4 year ++ month_and_day

abbrev pub figures : Year → List Named
figures y =
    (codes "basic, single or separately", spelled_dollars (y.basic single))
    ∷ (codes "basic, jointly or surviving spouse", spelled_dollars (y.basic jointly))
    ∷ (codes "basic, head of household", spelled_dollars (y.basic head_of_household))
    ∷ (codes "box, unmarried", spelled_dollars (y.box single))
    ∷ (codes "box, others", spelled_dollars (y.box separately))
    ∷ (codes "claimed, at least", spelled_dollars y.claimed_at_least)
    ∷ (codes "claimed, above earned income", spelled_dollars y.claimed_above_earned)
    ∷ (codes "gross income below", spelled_dollars y.gross_income_limit)
    ∷ (codes "65, born before", spelled_day (y.year - 64) (codes "-01-02"))
    ∷ (codes "under 19, born after", spelled_day (y.year - 19) (codes "-12-31"))
    ∷ (codes "under 24, born after", spelled_day (y.year - 24) (codes "-12-31"))
    ∷ []
