-- Laws of the dictionary of a year: to a household that answers all questions, and whose incomes are modest, it gives what the
-- written tables give.
use Rattle.std.specs.Prelude.{◌≡◌, ℕ, ◌<◌, ◌≤◌, pos, unsigned_abs, List, [], ◌∷◌, codes, length, Some}
use Rattle.fact_values.specs.declared.value.Value.{Value}
use Rattle.fact_values.specs.declared.value.Value.TheVariants.{Boolean, Choice, Dollar, Int, Members}
use Rattle.value_text.specs.Enums.{option_at}
use Rattle.three_state.specs.declared.res.Res.TheVariants.{Complete}
use Rattle.evaluation.specs.Sure.{first_found}
use Rattle.answers.specs.Answered.{Answered}
use Rattle.dict_meaning.specs.Accepted.{Accepted, IsAccepted}
use Rattle.dict_meaning.specs.Fits.{AnswersFit}
use Rattle.dict_meaning.specs.Plain.{plain}
use Rattle.tax_2023.specs.Household.{Cents, Dependent, Household, Status, single, separately, jointly, surviving_spouse, head_of_household}
use Rattle.tax_2023.specs.Years.{Year}
use Rattle.tax_2023.specs.Tables as tables
use Rattle.tax_2023.specs.Tables.{dependents, members, qualifying_children, status}
use Rattle.tax_2023.specs.Figures.{figures}
use Rattle.tax_2023.specs.Facts.{dictionary}
use Rattle.tax_2023.specs.Answers.{AreComplete, AreOfHousehold, of_person, of_return}

-- ---- filing statuses by their names

abbrev pub status_name : Status → List ℕ
status_name single = codes "single"
status_name separately = codes "marriedFilingSeparately"
status_name jointly = codes "marriedFilingJointly"
status_name surviving_spouse = codes "qualifyingSurvivingSpouse"
status_name head_of_household = codes "headOfHousehold"

-- the place of the status in the only list of options
abbrev pub status_place : Status → ℕ
status_place single = 0
status_place separately = 1
status_place jointly = 2
status_place surviving_spouse = 3
status_place head_of_household = 4

abbrev pub status_value : Status → Value
status_value s = Choice 0 (status_place s)

-- ---- results

-- plain evaluation of the fact `/n`, and of `/dependents/*/n` at a member, is complete with the value
abbrev pub Has : Accepted → Answered → List ℕ → Value → Type 0
Has d a n v = plain d a (of_return d.tree n) ≡ Some (Complete v)

abbrev pub HasAt : Accepted → Answered → ℕ → List ℕ → Value → Type 0
HasAt d a m n v = plain d a (of_person d.tree n m) ≡ Some (Complete v)

pub record HasPerson (d : Accepted) (y : Year) (a : Answered) (h : Household) (p : Dependent) : Type 0 where
  pub under_age : HasAt d a p.member (codes "underAge") (Boolean (tables.is_under_age y p))
  pub younger : HasAt d a p.member (codes "younger") (Boolean (tables.is_younger h p))
  pub qualifying_child : HasAt d a p.member (codes "qualifyingChild") (Boolean (tables.is_qualifying_child y h p))
  pub qualifying_relative : HasAt d a p.member (codes "qualifyingRelative") (Boolean (tables.is_qualifying_relative y h p))
  pub is_dependent : HasAt d a p.member (codes "isDependent") (Boolean (tables.is_dependent y h p))

abbrev pub HasPersons : Accepted → Year → Answered → Household → List Dependent → Type 0
HasPersons d y a h [] = Unit {0}
HasPersons d y a h (p ∷ ps) = HasPerson d y a h p × HasPersons d y a h ps

-- each fact has the value of the tables
pub record HasTables (d : Accepted) (y : Year) (a : Answered) (h : Household) : Type 0 where
  pub filing_status : Has d a (codes "filingStatus") (status_value (status h))
  pub basic_amount : Has d a (codes "basicAmount") (Dollar (tables.basic_amount y h))
  pub additional_amount : Has d a (codes "additionalAmount") (Dollar (tables.box_amount y h))
  pub boxes : Has d a (codes "boxes") (Int (pos (tables.boxes y h)))
  pub standard_deduction : Has d a (codes "standardDeduction") (Dollar (tables.deduction y h))
  pub taxable_income : Has d a (codes "taxableIncome") (Dollar (tables.taxable_income y h))
  pub persons : HasPersons d y a h h.persons
  pub dependent_list : Has d a (codes "dependentList") (Members (members (dependents y h)))
  pub dependent_count : Has d a (codes "dependentCount") (Int (pos (length (dependents y h))))
  pub qualifying_child_count : Has d a (codes "qualifyingChildCount") (Int (pos (length (qualifying_children y h))))
  -- the first of the list, and incomplete where it is empty
  pub first_dependent : plain d a (of_return d.tree (codes "firstDependent")) ≡ Some (first_found (members (dependents y h)))

-- ---- the law

-- an amount of at most 1,000,000,000,000.00 in size
abbrev pub IsModest : Cents → Type 0
IsModest n = unsigned_abs n ≤ 100000000000000

-- an accepted dictionary with the facts of the year
pub record IsOfYear (y : Year) (d : Accepted) : Type 0 where
  pub is_accepted : IsAccepted [] d
  pub facts : d.tree ≡ dictionary (figures y)

-- the filing statuses are called by their names in the dictionary
abbrev pub StatusesAreNamed : Year → Type 0
StatusesAreNamed y = (s : Status) → option_at (dictionary (figures y)).enums 0 (status_place s) ≡ Some (status_name s)

-- For the answers of every household whose two incomes are modest, so that no sum overflows, the facts have the values of the
-- tables.
abbrev pub TablesHold : Year → Type 0
TablesHold y =
    (d : Accepted) → IsOfYear y d → (a : Answered) (h : Household) → AreOfHousehold d.tree a h → IsModest h.earned_income → IsModest h.other_income
    → HasTables d y a h

-- where answers that fit the dictionary answer every question, they are those of a household
abbrev pub HouseholdIsThere : Year → Type 0
HouseholdIsThere y = (d : Accepted) → IsOfYear y d → (a : Answered) → AnswersFit d.tree a → AreComplete d.tree a → (h : Household) × AreOfHousehold d.tree a h

-- and there are answers that fit it, of a household with a person and with modest incomes
abbrev pub HouseholdAnswers : Year → Type 0
HouseholdAnswers y =
    (d : Accepted) → IsOfYear y d
    → (a : Answered) × (h : Household) × AnswersFit d.tree a × AreOfHousehold d.tree a h × IsModest h.earned_income × IsModest h.other_income × (0 < length h.persons)
