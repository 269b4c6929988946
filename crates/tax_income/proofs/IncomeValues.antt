-- The value of each fact behind those of the year, by its number.
use Rattle.std.proofs.Common.{ℕ, ◌-◌, pos, nat_lt, if◌then◌else◌, List, [], ◌∷◌, Option, Some, None, slice_get}
use Rattle.std.specs.Prelude.{option_map, unwrap_or}
use Rattle.fact_values.specs.declared.value.Value.{Value}
use Rattle.fact_values.specs.declared.value.Value.TheVariants.{Boolean, Dollar, Int}
use Rattle.dict_source.specs.Tree.{Source}
use Rattle.dict_types.specs.TypedParts.{TypedDictionary}
use Rattle.answers.specs.Answered.{Answered}
use Rattle.dict_meaning.specs.Accepted.{Accepted}
use Rattle.evaluation.specs.Results.{slot}
use Rattle.tax_2023.specs.Household.{Cents, Dependent, Household, Status}
use Rattle.tax_2023.specs.Tables.{cents, status, taxable_income}
use Rattle.tax_2023.proofs.Stated.{IsWorth, Stated, both_stated}
use Rattle.tax_2023.proofs.Values.{Entry, entry_value, of_person, of_return, person, stated}
use Rattle.tax_2023.proofs.YearDictionary.{Rest, of_year}
use Rattle.tax_income.specs.Bands.{ends}
use Rattle.tax_income.specs.Facts.{facts_of_income}
use Rattle.tax_income.specs.Figures.{income_figures}
use Rattle.tax_income.specs.Tables as tables
use Rattle.tax_income.specs.Tables.{Numbered, credit_children, is_credit_child, is_other_dependent, other_dependents, part_between, schedule_tax}
use Rattle.tax_income.specs.Years.{IncomeYear}
use Rattle.tax_income.proofs.IncomeDictionary.{further_ranks}
use Rattle.tax_income.proofs.Rounding.{taxed}

-- ---- values

-- the end of a band, by its number from 0
abbrev pub end_at : IncomeYear → ℕ → Status → ℕ
end_at y k s = unwrap_or (slice_get (ends y s) k) 0

-- the tax of the part between two ends
abbrev pub tax_between : IncomeYear → Household → ℕ → Option ℕ → ℕ → Cents
tax_between y h low high percent = taxed (part_between low high (taxable_income y.tables h)) percent

-- of facts 46 to 69
abbrev pub further_entries : IncomeYear → Numbered → List Entry
further_entries y numbered =
    of_return (λ h. Dollar (cents (end_at y 0 (status h))))
    ∷ of_return (λ h. Dollar (cents (end_at y 1 (status h))))
    ∷ of_return (λ h. Dollar (cents (end_at y 2 (status h))))
    ∷ of_return (λ h. Dollar (cents (end_at y 3 (status h))))
    ∷ of_return (λ h. Dollar (cents (end_at y 4 (status h))))
    ∷ of_return (λ h. Dollar (cents (end_at y 5 (status h))))
    ∷ of_return (λ h. Dollar (tax_between y h 0 (Some (end_at y 0 (status h))) 10))
    ∷ of_return (λ h. Dollar (tax_between y h (end_at y 0 (status h)) (Some (end_at y 1 (status h))) 12))
    ∷ of_return (λ h. Dollar (tax_between y h (end_at y 1 (status h)) (Some (end_at y 2 (status h))) 22))
    ∷ of_return (λ h. Dollar (tax_between y h (end_at y 2 (status h)) (Some (end_at y 3 (status h))) 24))
    ∷ of_return (λ h. Dollar (tax_between y h (end_at y 3 (status h)) (Some (end_at y 4 (status h))) 32))
    ∷ of_return (λ h. Dollar (tax_between y h (end_at y 4 (status h)) (Some (end_at y 5 (status h))) 35))
    ∷ of_return (λ h. Dollar (tax_between y h (end_at y 5 (status h)) None 37))
    ∷ of_return (λ h. Dollar (schedule_tax y h))
    ∷ of_person (λ h p. Boolean (numbered p.member))
    ∷ of_person (λ h p. Boolean (is_credit_child y h numbered p))
    ∷ of_person (λ h p. Boolean (is_other_dependent y h numbered p))
    ∷ of_return (λ h. Int (pos (credit_children y h numbered)))
    ∷ of_return (λ h. Int (pos (other_dependents y h numbered)))
    ∷ of_return (λ h. Dollar (tables.credit_base y h numbered))
    ∷ of_return (λ h. Dollar (tables.excess h))
    ∷ of_return (λ h. Dollar (tables.reduction h))
    ∷ of_return (λ h. Dollar (tables.child_credit y h numbered))
    ∷ of_return (λ h. Dollar (tables.tax_after_credits y h numbered))
    ∷ []

-- counted from 46
abbrev pub behind : {X : Type 0} → List X → ℕ → Option X
behind xs n = if nat_lt n 46 then None else slice_get xs (n - 46)

abbrev pub further_stated : IncomeYear → Household → Numbered → (ℕ → Dependent) → Stated
further_stated y h numbered g n = option_map (entry_value h g) (behind (further_entries y numbered) n)

-- of all facts
abbrev pub stated_of_income : IncomeYear → Answered → Household → Numbered → Stated
stated_of_income y a h numbered = both_stated (stated y.tables h (person a)) (further_stated y h numbered (person a))

-- ---- the dictionary, with any types

abbrev pub income_rest : IncomeYear → TypedDictionary → Rest
income_rest y t = record { facts = facts_of_income (income_figures y); ranks = further_ranks; typed = t }

abbrev pub of_income : IncomeYear → TypedDictionary → Accepted
of_income y t = of_year y.tables (income_rest y t)

-- over answers and a household, the expression of the fact with number n is worth the value at a member
abbrev pub Worth : IncomeYear → TypedDictionary → Answered → Household → Numbered → ℕ → ℕ → Value → Source → Type 0
Worth y t a h numbered n m v e = IsWorth (of_income y t) a (stated_of_income y a h numbered) (slot n m) v e
