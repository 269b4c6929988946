-- The couple with a child, of whom it is said that it has a number.
use Rattle.std.proofs.Common.{◌≡◌, Bool, true, false, if◌then◌else◌, IsTrue, [], ◌∷◌, List, Some, None, refl, sym, ap, subst, ◌∙◌, arith}
use Rattle.std.specs.FinMap as map
use Rattle.std.proofs.lemmas.Option.{none-some}
use Rattle.fact_values.specs.declared.fact_type.FactType.TheVariants as types
use Rattle.fact_values.specs.declared.slot.Slot.{Slot}
use Rattle.fact_values.specs.declared.value.Value.{Value}
use Rattle.fact_values.specs.declared.value.Value.TheVariants.{Boolean}
use Rattle.dict_source.specs.Dictionary.{Dictionary as Tree}
use Rattle.answers.specs.Answered.{value_of}
use Rattle.answers.specs.declared.edit.Side.TheVariants.{Answer, Override}
use Rattle.evaluation.specs.Results.{slot}
use Rattle.dict_meaning.specs.Fits.{is_list}
use Rattle.dict_meaning.specs.Slots.{slot_same}
use Rattle.dict_meaning.proofs.SlotLaws.{slot_same-equal}
use Rattle.tax_2023.specs.Answers.{AreOfHousehold}
use Rattle.tax_2023.proofs.Answering.{AllMayHave, Given, answers_are, answers_fit, given_to, member_fits, member_listed, nothing_given, or_else, overrides_are, same_lists, with_answers, with_member}
use Rattle.tax_2023.proofs.Example.{child_listed, couple, couple_answers, couple_may, couples_answers, is_open}
use Rattle.tax_income.specs.Answers.{AreNumbered}
use Rattle.tax_income.specs.Facts.{dictionary_of, facts_of_income}
use Rattle.tax_income.specs.Figures.{income_figures}
use Rattle.tax_income.specs.Laws.{HouseholdAnswers}
use Rattle.tax_income.specs.Tables.{Numbered}
use Rattle.tax_income.specs.Years.{IncomeYear}

abbrev all_answers : List Given
all_answers = (slot 60 1, Boolean true) ∷ couples_answers

abbrev all_numbered : Numbered
all_numbered member = true

all_may : (y : IncomeYear) → AllMayHave (dictionary_of y) (with_member 26) all_answers
all_may y = ((rw child_listed refl, (types.Boolean, refl, tt)), couple_may y.tables (facts_of_income (income_figures y)))

-- the couple says nothing else of that slot
behind : (s : Slot) (v : Value) → given_to couples_answers s ≡ Some v → given_to all_answers s ≡ Some v
behind s v given = by (slot_same (slot 60 1) s) refl
  where
    by : (b : Bool) → slot_same (slot 60 1) s ≡ b → (if b then Some (Boolean true) else given_to couples_answers s) ≡ Some v
    by true same = absurd (none-some v (subst (λ t. given_to couples_answers t ≡ Some v) (sym (slot_same-equal (slot 60 1) s same)) given))
    by false other = given

pub household_answers : (y : IncomeYear) → HouseholdAnswers y
household_answers y d of_income =
    let base = with_member 26 in
    let fit = member_fits [] d of_income.is_accepted 26 (subst (λ (t : Tree). IsTrue (is_list t 26)) (sym of_income.facts) (is_open y.tables (facts_of_income (income_figures y)))) in
    let may = subst (λ (t : Tree). AllMayHave t base all_answers) (sym of_income.facts) (all_may y) in
    let a = with_answers all_answers base in
    let no_override : (s : Slot) → value_of Override a s ≡ None = λ s. overrides_are [] d of_income.is_accepted base fit all_answers may s ∙ nothing_given 26 Override s in
    let opened : map.get a.lists 26 ≡ Some (1 ∷ []) = ap (λ lists. map.get lists 26) (same_lists all_answers base) ∙ member_listed 26 in
    let are : (s : Slot) (v : Value) → given_to all_answers s ≡ Some v → value_of Answer a s ≡ Some v = λ s v given.
    answers_are [] d of_income.is_accepted base fit all_answers may s ∙ ap (λ o. or_else o (value_of Answer base s)) given in
    let there : AreOfHousehold (dictionary_of y) a couple = couple_answers y.tables (facts_of_income (income_figures y)) a no_override opened (λ s v given. are s v (behind s v given)) in
    let numbers : AreNumbered (dictionary_of y) a all_numbered couple.persons = (are (slot 60 1) (Boolean true) refl, tt) in (
      a,
      couple,
      all_numbered,
      answers_fit [] d of_income.is_accepted base fit all_answers may,
      subst (λ (t : Tree). AreOfHousehold t a couple) (sym of_income.facts) there,
      subst (λ (t : Tree). AreNumbered t a all_numbered couple.persons) (sym of_income.facts) numbers,
      omega arith,
      omega arith,
      omega arith,
    )
