-- Laws of the dictionary with the rate schedule and the child tax credit: to a household that answers all questions, and whose
-- incomes are modest, it gives what the written tables give.
use Rattle.std.specs.Prelude.{◌≡◌, ℕ, ◌*◌, ◌<◌, ◌≤◌, ◌≤ℤ◌, pos, List, [], ◌∷◌, codes, length}
use Rattle.fact_values.specs.declared.value.Value.TheVariants.{Boolean, Dollar, Int}
use Rattle.answers.specs.Answered.{Answered}
use Rattle.dict_meaning.specs.Accepted.{Accepted, IsAccepted}
use Rattle.dict_meaning.specs.Fits.{AnswersFit}
use Rattle.tax_2023.specs.Household.{Cents, Dependent, Household}
use Rattle.tax_2023.specs.Tables.{cents}
use Rattle.tax_2023.specs.Answers.{AreComplete, AreOfHousehold}
use Rattle.tax_2023.specs.Laws.{Has, HasAt, HasTables, IsModest}
use Rattle.tax_income.specs.Answers.{AllAreStated, AreNumbered}
use Rattle.tax_income.specs.Facts.{dictionary_of}
use Rattle.tax_income.specs.Years.{IncomeYear}
use Rattle.tax_income.specs.Tables as tables
use Rattle.tax_income.specs.Tables.{Numbered, credit_children, is_credit_child, is_other_dependent, other_dependents, schedule_tax, thousands}

-- ---- results

pub record HasChild (d : Accepted) (y : IncomeYear) (a : Answered) (h : Household) (numbered : Numbered) (p : Dependent) : Type 0 where
  pub credit_child : HasAt d a p.member (codes "creditChild") (Boolean (is_credit_child y h numbered p))
  pub other_dependent : HasAt d a p.member (codes "otherDependent") (Boolean (is_other_dependent y h numbered p))

abbrev pub HasChildren : Accepted → IncomeYear → Answered → Household → Numbered → List Dependent → Type 0
HasChildren d y a h numbered [] = Unit {0}
HasChildren d y a h numbered (p ∷ ps) = HasChild d y a h numbered p × HasChildren d y a h numbered ps

-- each fact has the value of the tables, also those of the year
pub record HasIncomeTables (d : Accepted) (y : IncomeYear) (a : Answered) (h : Household) (numbered : Numbered) : Type 0 where
  pub year : HasTables d y.tables a h
  pub schedule_tax : Has d a (codes "scheduleTax") (Dollar (schedule_tax y h))
  pub children : HasChildren d y a h numbered h.persons
  pub credit_child_count : Has d a (codes "creditChildCount") (Int (pos (credit_children y h numbered)))
  pub other_dependent_count : Has d a (codes "otherDependentCount") (Int (pos (other_dependents y h numbered)))
  pub credit_base : Has d a (codes "creditBase") (Dollar (tables.credit_base y h numbered))
  pub excess : Has d a (codes "excess") (Dollar (tables.excess h))
  pub reduction : Has d a (codes "reduction") (Dollar (tables.reduction h))
  pub child_credit : Has d a (codes "childCredit") (Dollar (tables.child_credit y h numbered))
  pub tax_after_credits : Has d a (codes "taxAfterCredits") (Dollar (tables.tax_after_credits y h numbered))

-- ---- the laws

-- an accepted dictionary with the facts of the year and those of its income behind them
pub record IsOfIncome (y : IncomeYear) (d : Accepted) : Type 0 where
  pub is_accepted : IsAccepted [] d
  pub facts : d.tree ≡ dictionary_of y

-- For the answers of every household whose two incomes are modest, so that no sum overflows, and that say of each person whether
-- it has a number, the facts have the values of the tables.
abbrev pub IncomeTablesHold : IncomeYear → Type 0
IncomeTablesHold y =
    (d : Accepted) → IsOfIncome y d → (a : Answered) (h : Household) (numbered : Numbered) → AnswersFit d.tree a → AreOfHousehold d.tree a h
    → AreNumbered d.tree a numbered h.persons → IsModest h.earned_income → IsModest h.other_income
    → HasIncomeTables d y a h numbered

-- where answers that fit the dictionary answer every question, they are those of a household whose persons have a number or none
abbrev pub HouseholdIsThere : IncomeYear → Type 0
HouseholdIsThere y =
    (d : Accepted) → IsOfIncome y d → (a : Answered) → AnswersFit d.tree a → AreComplete d.tree a → AllAreStated d.tree a
    → (h : Household) × AreOfHousehold d.tree a h × ((numbered : Numbered) × AreNumbered d.tree a numbered h.persons)

-- and there are answers that fit it, of a household with a person, of which is said whether it has a number, and with modest incomes
abbrev pub HouseholdAnswers : IncomeYear → Type 0
HouseholdAnswers y =
    (d : Accepted) → IsOfIncome y d
    → (a : Answered) × (h : Household) × (numbered : Numbered) × AnswersFit d.tree a × AreOfHousehold d.tree a h × AreNumbered d.tree a numbered h.persons
    × IsModest h.earned_income × IsModest h.other_income × (0 < length h.persons)

-- so many thousands are not less than the amount, and no fewer are
pub record IsLeastCover (amount : Cents) (n : ℕ) : Type 0 where
  pub covers : amount ≤ℤ cents (1000 * n)
  pub least : (m : ℕ) → amount ≤ℤ cents (1000 * m) → n ≤ m

abbrev pub ThousandsAreLeast : Type 0
ThousandsAreLeast = (amount : Cents) → IsLeastCover amount (thousands amount)
