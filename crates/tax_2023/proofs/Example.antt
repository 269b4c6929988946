-- A household that answers all questions, with answers that fit: a couple that files jointly, with a child of ten years.
use Rattle.std.proofs.Common.{◌≡◌, IsTrue, pos, true, false, List, [], ◌∷◌, Some, None, refl, sym, ap, subst, ◌∙◌, arith}
use Rattle.std.specs.FinMap as map
use Rattle.fact_values.specs.declared.fact_type.FactType.TheVariants as types
use Rattle.fact_values.specs.declared.slot.Slot.{Slot}
use Rattle.fact_values.specs.declared.value.Value.{Value}
use Rattle.fact_values.specs.declared.value.Value.TheVariants.{Boolean, Day, Dollar}
use Rattle.dict_source.specs.Facts.{Fact}
use Rattle.dict_source.specs.Dictionary.{Dictionary as Tree}
use Rattle.answers.specs.Answered.{Answered, value_of}
use Rattle.answers.specs.declared.edit.Side.TheVariants.{Answer, Override}
use Rattle.evaluation.specs.Results.{slot}
use Rattle.dict_meaning.specs.Fits.{is_list}
use Rattle.dict_meaning.specs.Slots.{is_member}
use Rattle.written_facts.specs.Taking.{with_facts}
use Rattle.tax_2023.specs.Answers.{AreOfHousehold}
use Rattle.tax_2023.specs.Facts.{dictionary}
use Rattle.tax_2023.specs.Figures.{figures}
use Rattle.tax_2023.specs.Household.{Dependent, Household}
use Rattle.tax_2023.specs.Laws.{HouseholdAnswers}
use Rattle.tax_2023.specs.Years.{Year}
use Rattle.tax_2023.proofs.Answering.{AllMayHave, Given, answers_are, answers_fit, given_to, member_fits, member_listed, nothing_given, or_else, overrides_are, same_lists, with_answers, with_member}

-- 1985-03-10, 1987-07-04 and 2013-05-20
abbrev child : Dependent
child = record {
  member = 1;
  date_of_birth = pos 15845;
  child_relationship = true;
  student = false;
  disabled = false;
  lived_with_filer = true;
  self_supported = false;
  joint_return = false;
  related_or_member = true;
  gross_income = pos 0;
  supported_by_filer = true;
}

abbrev pub couple : Household
couple = record {
  date_of_birth = pos 5547;
  blind = false;
  spouse_date_of_birth = pos 6393;
  spouse_blind = false;
  married = true;
  considered_unmarried = false;
  file_jointly = true;
  spouse_died = false;
  remarried = false;
  child_in_home = false;
  paid_half_of_home = false;
  qualifying_person = false;
  spouse_itemizes = false;
  can_be_claimed = false;
  earned_income = pos 5200000;
  other_income = pos 300050;
  persons = child ∷ [];
}

-- their answers, by the numbers of facts
abbrev pub couples_answers : List Given
couples_answers =
    (slot 1 0, Day couple.date_of_birth)
    ∷ (slot 2 0, Boolean couple.blind)
    ∷ (slot 3 0, Day couple.spouse_date_of_birth)
    ∷ (slot 4 0, Boolean couple.spouse_blind)
    ∷ (slot 5 0, Boolean couple.married)
    ∷ (slot 6 0, Boolean couple.considered_unmarried)
    ∷ (slot 7 0, Boolean couple.file_jointly)
    ∷ (slot 8 0, Boolean couple.spouse_died)
    ∷ (slot 9 0, Boolean couple.remarried)
    ∷ (slot 10 0, Boolean couple.child_in_home)
    ∷ (slot 11 0, Boolean couple.paid_half_of_home)
    ∷ (slot 12 0, Boolean couple.qualifying_person)
    ∷ (slot 13 0, Boolean couple.spouse_itemizes)
    ∷ (slot 14 0, Boolean couple.can_be_claimed)
    ∷ (slot 15 0, Dollar couple.earned_income)
    ∷ (slot 16 0, Dollar couple.other_income)
    ∷ (slot 27 1, Day child.date_of_birth)
    ∷ (slot 28 1, Boolean child.child_relationship)
    ∷ (slot 29 1, Boolean child.student)
    ∷ (slot 30 1, Boolean child.disabled)
    ∷ (slot 31 1, Boolean child.lived_with_filer)
    ∷ (slot 32 1, Boolean child.self_supported)
    ∷ (slot 33 1, Boolean child.joint_return)
    ∷ (slot 34 1, Boolean child.related_or_member)
    ∷ (slot 35 1, Dollar child.gross_income)
    ∷ (slot 36 1, Boolean child.supported_by_filer)
    ∷ []

-- the child is the only member
pub child_listed : IsTrue (is_member (with_member 26) 26 1)
child_listed = rw (member_listed 26) refl

-- in a dictionary of a year with further facts behind
module _ (y : Year) (more : List Fact) where
  abbrev tree : Tree
  tree = with_facts (dictionary (figures y)) more

  pub couple_may : AllMayHave tree (with_member 26) couples_answers
  couple_may =
      let listed = child_listed in (
        (refl, (types.Day, refl, refl)),
        (
          (refl, (types.Boolean, refl, tt)),
          (
            (refl, (types.Day, refl, refl)),
            (
              (refl, (types.Boolean, refl, tt)),
              (
                (refl, (types.Boolean, refl, tt)),
                (
                  (refl, (types.Boolean, refl, tt)),
                  (
                    (refl, (types.Boolean, refl, tt)),
                    (
                      (refl, (types.Boolean, refl, tt)),
                      (
                        (refl, (types.Boolean, refl, tt)),
                        (
                          (refl, (types.Boolean, refl, tt)),
                          (
                            (refl, (types.Boolean, refl, tt)),
                            (
                              (refl, (types.Boolean, refl, tt)),
                              (
                                (refl, (types.Boolean, refl, tt)),
                                (
                                  (refl, (types.Boolean, refl, tt)),
                                  (
                                    (refl, (types.Dollar, refl, refl)),
                                    (
                                      (refl, (types.Dollar, refl, refl)),
                                      (
                                        (rw listed refl, (types.Day, refl, refl)),
                                        (
                                          (rw listed refl, (types.Boolean, refl, tt)),
                                          (
                                            (rw listed refl, (types.Boolean, refl, tt)),
                                            (
                                              (rw listed refl, (types.Boolean, refl, tt)),
                                              (
                                                (rw listed refl, (types.Boolean, refl, tt)),
                                                (
                                                  (rw listed refl, (types.Boolean, refl, tt)),
                                                  (
                                                    (rw listed refl, (types.Boolean, refl, tt)),
                                                    (
                                                      (rw listed refl, (types.Boolean, refl, tt)),
                                                      (
                                                        (rw listed refl, (types.Dollar, refl, refl)),
                                                        (
                                                          (rw listed refl, (types.Boolean, refl, tt)),
                                                          tt,
                                                        ),
                                                      ),
                                                    ),
                                                  ),
                                                ),
                                              ),
                                            ),
                                          ),
                                        ),
                                      ),
                                    ),
                                  ),
                                ),
                              ),
                            ),
                          ),
                        ),
                      ),
                    ),
                  ),
                ),
              ),
            ),
          ),
        ),
      )

  pub is_open : IsTrue (is_list tree 26)
  is_open = refl

-- whatever is answered besides, behind these answers
module _ (y : Year) (more : List Fact) (a : Answered) (no_override : (s : Slot) → value_of Override a s ≡ None) (opened : map.get a.lists 26 ≡ Some (1 ∷ []))
    (are : (s : Slot) (v : Value) → given_to couples_answers s ≡ Some v → value_of Answer a s ≡ Some v) where
  pub couple_answers : AreOfHousehold (tree y more) a couple
  couple_answers = record {
    no_override = no_override;
    date_of_birth = are (slot 1 0) (Day couple.date_of_birth) refl;
    blind = are (slot 2 0) (Boolean couple.blind) refl;
    spouse_date_of_birth = are (slot 3 0) (Day couple.spouse_date_of_birth) refl;
    spouse_blind = are (slot 4 0) (Boolean couple.spouse_blind) refl;
    married = are (slot 5 0) (Boolean couple.married) refl;
    considered_unmarried = are (slot 6 0) (Boolean couple.considered_unmarried) refl;
    file_jointly = are (slot 7 0) (Boolean couple.file_jointly) refl;
    spouse_died = are (slot 8 0) (Boolean couple.spouse_died) refl;
    remarried = are (slot 9 0) (Boolean couple.remarried) refl;
    child_in_home = are (slot 10 0) (Boolean couple.child_in_home) refl;
    paid_half_of_home = are (slot 11 0) (Boolean couple.paid_half_of_home) refl;
    qualifying_person = are (slot 12 0) (Boolean couple.qualifying_person) refl;
    spouse_itemizes = are (slot 13 0) (Boolean couple.spouse_itemizes) refl;
    can_be_claimed = are (slot 14 0) (Boolean couple.can_be_claimed) refl;
    earned_income = are (slot 15 0) (Dollar couple.earned_income) refl;
    other_income = are (slot 16 0) (Dollar couple.other_income) refl;
    opened = opened;
    persons = (
      record {
        date_of_birth = are (slot 27 1) (Day child.date_of_birth) refl;
        child_relationship = are (slot 28 1) (Boolean child.child_relationship) refl;
        student = are (slot 29 1) (Boolean child.student) refl;
        disabled = are (slot 30 1) (Boolean child.disabled) refl;
        lived_with_filer = are (slot 31 1) (Boolean child.lived_with_filer) refl;
        self_supported = are (slot 32 1) (Boolean child.self_supported) refl;
        joint_return = are (slot 33 1) (Boolean child.joint_return) refl;
        related_or_member = are (slot 34 1) (Boolean child.related_or_member) refl;
        gross_income = are (slot 35 1) (Dollar child.gross_income) refl;
        supported_by_filer = are (slot 36 1) (Boolean child.supported_by_filer) refl;
      },
      tt,
    );
  }

-- ---- they are there in the dictionary of a year

pub household_answers : (y : Year) → HouseholdAnswers y
household_answers y d of_year =
    let base = with_member 26 in
    let fit = member_fits [] d of_year.is_accepted 26 (subst (λ (t : Tree). IsTrue (is_list t 26)) (sym of_year.facts) (is_open y [])) in
    let may = subst (λ (t : Tree). AllMayHave t base couples_answers) (sym of_year.facts) (couple_may y []) in
    let a = with_answers couples_answers base in
    let no_override : (s : Slot) → value_of Override a s ≡ None = λ s. overrides_are [] d of_year.is_accepted base fit couples_answers may s ∙ nothing_given 26 Override s in
    let opened : map.get a.lists 26 ≡ Some (1 ∷ []) = ap (λ lists. map.get lists 26) (same_lists couples_answers base) ∙ member_listed 26 in
    let are : (s : Slot) (v : Value) → given_to couples_answers s ≡ Some v → value_of Answer a s ≡ Some v = λ s v given.
    answers_are [] d of_year.is_accepted base fit couples_answers may s ∙ ap (λ o. or_else o (value_of Answer base s)) given in
    let there : AreOfHousehold (dictionary (figures y)) a couple = couple_answers y [] a no_override opened are in
    (a, couple, answers_fit [] d of_year.is_accepted base fit couples_answers may, subst (λ (t : Tree). AreOfHousehold t a couple) (sym of_year.facts) there, omega arith, omega arith, omega arith)
