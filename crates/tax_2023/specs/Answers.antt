-- When answers are those of a household: each question is answered, and nothing is overridden.
use Rattle.std.specs.Prelude.{◌≡◌, ℕ, IsSome, IsTrue, List, [], ◌∷◌, codes, Option, Some, None, unwrap_or}
use Rattle.std.specs.FinMap as map
use Rattle.fact_paths.specs.declared.fact_path.FactPath.TheVariants.{Global, Member}
use Rattle.fact_values.specs.declared.slot.Slot.{Slot}
use Rattle.fact_values.specs.declared.value.Value.{Value}
use Rattle.fact_values.specs.declared.value.Value.TheVariants.{Boolean, Day, Dollar}
use Rattle.dict_source.specs.Dictionary.{Dictionary}
use Rattle.dict_source.specs.Finding.{find_path}
use Rattle.answers.specs.Answered.{Answered, value_of}
use Rattle.answers.specs.declared.edit.Side.TheVariants.{Answer, Override}
use Rattle.evaluation.specs.Results.{slot}
use Rattle.dict_meaning.specs.Slots.{is_member}
use Rattle.tax_2023.specs.Household.{Dependent, Household}
use Rattle.tax_2023.specs.Tables.{members}

-- ---- slots by name

-- the number of the fact `/n`, and 0 where there is none
abbrev pub global : Dictionary → List ℕ → ℕ
global d n = unwrap_or (find_path d.facts (Global n)) 0

-- the slot of `/n`
abbrev pub of_return : Dictionary → List ℕ → Slot
of_return d n = slot (global d n) 0

-- the slot of `/dependents/*/n` at a member
abbrev pub of_person : Dictionary → List ℕ → ℕ → Slot
of_person d n m = slot (unwrap_or (find_path d.facts (Member (codes "dependents") n)) 0) m

-- ---- answers

-- the answers on the return, and on a person
abbrev pub answer : Dictionary → Answered → List ℕ → Option Value
answer d a n = value_of Answer a (of_return d n)

abbrev pub answer_on : Dictionary → Answered → ℕ → List ℕ → Option Value
answer_on d a m n = value_of Answer a (of_person d n m)

-- the answers on this person are these
pub record AreOnPerson (d : Dictionary) (a : Answered) (p : Dependent) : Type 0 where
  pub date_of_birth : answer_on d a p.member (codes "dateOfBirth") ≡ Some (Day p.date_of_birth)
  pub child_relationship : answer_on d a p.member (codes "childRelationship") ≡ Some (Boolean p.child_relationship)
  pub student : answer_on d a p.member (codes "student") ≡ Some (Boolean p.student)
  pub disabled : answer_on d a p.member (codes "disabled") ≡ Some (Boolean p.disabled)
  pub lived_with_filer : answer_on d a p.member (codes "livedWithFiler") ≡ Some (Boolean p.lived_with_filer)
  pub self_supported : answer_on d a p.member (codes "selfSupported") ≡ Some (Boolean p.self_supported)
  pub joint_return : answer_on d a p.member (codes "jointReturn") ≡ Some (Boolean p.joint_return)
  pub related_or_member : answer_on d a p.member (codes "relatedOrMember") ≡ Some (Boolean p.related_or_member)
  pub gross_income : answer_on d a p.member (codes "grossIncome") ≡ Some (Dollar p.gross_income)
  pub supported_by_filer : answer_on d a p.member (codes "supportedByFiler") ≡ Some (Boolean p.supported_by_filer)

abbrev pub AreOnPersons : Dictionary → Answered → List Dependent → Type 0
AreOnPersons d a [] = Unit {0}
AreOnPersons d a (p ∷ ps) = AreOnPerson d a p × AreOnPersons d a ps

-- the answers are this household's: to all questions on the return and on each person, and the list of persons is open
pub record AreOfHousehold (d : Dictionary) (a : Answered) (h : Household) : Type 0 where
  pub no_override : (s : Slot) → value_of Override a s ≡ None
  pub date_of_birth : answer d a (codes "dateOfBirth") ≡ Some (Day h.date_of_birth)
  pub blind : answer d a (codes "blind") ≡ Some (Boolean h.blind)
  pub spouse_date_of_birth : answer d a (codes "spouseDateOfBirth") ≡ Some (Day h.spouse_date_of_birth)
  pub spouse_blind : answer d a (codes "spouseBlind") ≡ Some (Boolean h.spouse_blind)
  pub married : answer d a (codes "married") ≡ Some (Boolean h.married)
  pub considered_unmarried : answer d a (codes "consideredUnmarried") ≡ Some (Boolean h.considered_unmarried)
  pub file_jointly : answer d a (codes "fileJointly") ≡ Some (Boolean h.file_jointly)
  pub spouse_died : answer d a (codes "spouseDied") ≡ Some (Boolean h.spouse_died)
  pub remarried : answer d a (codes "remarried") ≡ Some (Boolean h.remarried)
  pub child_in_home : answer d a (codes "childInHome") ≡ Some (Boolean h.child_in_home)
  pub paid_half_of_home : answer d a (codes "paidHalfOfHome") ≡ Some (Boolean h.paid_half_of_home)
  pub qualifying_person : answer d a (codes "qualifyingPerson") ≡ Some (Boolean h.qualifying_person)
  pub spouse_itemizes : answer d a (codes "spouseItemizes") ≡ Some (Boolean h.spouse_itemizes)
  pub can_be_claimed : answer d a (codes "canBeClaimed") ≡ Some (Boolean h.can_be_claimed)
  pub earned_income : answer d a (codes "earnedIncome") ≡ Some (Dollar h.earned_income)
  pub other_income : answer d a (codes "otherIncome") ≡ Some (Dollar h.other_income)
  pub opened : map.get a.lists (global d (codes "dependents")) ≡ Some (members h.persons)
  pub persons : AreOnPersons d a h.persons

-- ---- answers to every question, whatever they are

abbrev pub questions : List (List ℕ)
questions =
    codes "dateOfBirth"
    ∷ codes "blind"
    ∷ codes "spouseDateOfBirth"
    ∷ codes "spouseBlind"
    ∷ codes "married"
    ∷ codes "consideredUnmarried"
    ∷ codes "fileJointly"
    ∷ codes "spouseDied"
    ∷ codes "remarried"
    ∷ codes "childInHome"
    ∷ codes "paidHalfOfHome"
    ∷ codes "qualifyingPerson"
    ∷ codes "spouseItemizes"
    ∷ codes "canBeClaimed"
    ∷ codes "earnedIncome"
    ∷ codes "otherIncome"
    ∷ []

abbrev pub questions_on_persons : List (List ℕ)
questions_on_persons =
    codes "dateOfBirth"
    ∷ codes "childRelationship"
    ∷ codes "student"
    ∷ codes "disabled"
    ∷ codes "livedWithFiler"
    ∷ codes "selfSupported"
    ∷ codes "jointReturn"
    ∷ codes "relatedOrMember"
    ∷ codes "grossIncome"
    ∷ codes "supportedByFiler"
    ∷ []

-- each of these is answered, on the return and on a person
abbrev pub AreAnswered : Dictionary → Answered → List (List ℕ) → Type 0
AreAnswered d a [] = Unit {0}
AreAnswered d a (n ∷ ns) = IsSome (answer d a n) × AreAnswered d a ns

abbrev pub AreAnsweredOn : Dictionary → Answered → ℕ → List (List ℕ) → Type 0
AreAnsweredOn d a m [] = Unit {0}
AreAnsweredOn d a m (n ∷ ns) = IsSome (answer_on d a m n) × AreAnsweredOn d a m ns

-- nothing is overridden, each question on the return has an answer, the list of persons is open, and so has each on each person
pub record AreComplete (d : Dictionary) (a : Answered) : Type 0 where
  pub no_override : (s : Slot) → value_of Override a s ≡ None
  pub on_return : AreAnswered d a questions
  pub opened : IsSome (map.get a.lists (global d (codes "dependents")))
  pub on_persons : (m : ℕ) → IsTrue (is_member a (global d (codes "dependents")) m) → AreAnsweredOn d a m questions_on_persons
