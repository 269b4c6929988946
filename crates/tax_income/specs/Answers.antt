-- When answers say of each person whether it has the number that the credit needs.
use Rattle.std.specs.Prelude.{◌≡◌, ℕ, IsSome, IsTrue, List, [], ◌∷◌, codes, Some}
use Rattle.fact_values.specs.declared.value.Value.TheVariants.{Boolean}
use Rattle.dict_source.specs.Dictionary.{Dictionary}
use Rattle.answers.specs.Answered.{Answered}
use Rattle.dict_meaning.specs.Slots.{is_member}
use Rattle.tax_2023.specs.Household.{Dependent}
use Rattle.tax_2023.specs.Answers.{answer_on, global}
use Rattle.tax_income.specs.Tables.{Numbered}

-- of each of these persons
abbrev pub AreNumbered : Dictionary → Answered → Numbered → List Dependent → Type 0
AreNumbered d a numbered [] = Unit {0}
AreNumbered d a numbered (p ∷ ps) = (answer_on d a p.member (codes "hasNumber") ≡ Some (Boolean (numbered p.member))) × AreNumbered d a numbered ps

-- of each member there is an answer, whatever it is
abbrev pub AllAreStated : Dictionary → Answered → Type 0
AllAreStated d a = (m : ℕ) → IsTrue (is_member a (global d (codes "dependents")) m) → IsSome (answer_on d a m (codes "hasNumber"))
