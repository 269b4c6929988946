-- Answers to every question are those of a household.
use Rattle.std.proofs.Common.{◌≡◌, ℕ, false, IsTrue, List, [], ◌∷◌, map, Option, Some, None, refl, sym, ap, ◌∙◌, subst}
use Rattle.std.specs.Prelude.{IsSome, unwrap_or}
use Rattle.std.specs.List.{list_all}
use Rattle.std.specs.FinMap as finmap
use Rattle.common_lemmas.proofs.Bools.{both_left, both_right}
use Rattle.common_lemmas.proofs.Options.{something}
use Rattle.fact_values.specs.declared.fact_type.FactType.{FactType}
use Rattle.fact_values.specs.declared.fact_type.FactType.TheVariants as types
use Rattle.fact_values.specs.declared.slot.Slot.{Slot}
use Rattle.fact_values.specs.declared.value.Value.{Value}
use Rattle.fact_values.specs.declared.value.Value.TheVariants.{Boolean, Day, Dollar}
use Rattle.dict_source.specs.Facts.{Fact}
use Rattle.dict_source.specs.Dictionary.{Dictionary as Tree}
use Rattle.node_types.specs.StatedTypes.{type_at}
use Rattle.three_state.specs.Results.{truth}
use Rattle.evaluation.specs.Operations.{day_in, dollar_in}
use Rattle.evaluation.specs.Typed.{Domains, IsOfType}
use Rattle.answers.specs.Answered.{Answered, list_of, value_of}
use Rattle.answers.specs.declared.edit.Side.TheVariants.{Answer}
use Rattle.dict_meaning.specs.Fits.{AnswersFit, domains}
use Rattle.evaluation.specs.Results.{slot}
use Rattle.dict_meaning.specs.Slots.{is_member}
use Rattle.written_facts.specs.Taking.{with_facts}
use Rattle.tax_2023.specs.Household.{Household}
use Rattle.tax_2023.specs.Years.{Year}
use Rattle.tax_2023.specs.Figures.{figures}
use Rattle.tax_2023.specs.Facts.{dictionary}
use Rattle.tax_2023.specs.Answers.{AreComplete, AreOfHousehold, AreOnPerson, AreOnPersons}
use Rattle.tax_2023.specs.Laws.{HouseholdIsThere}
use Rattle.tax_2023.specs.Tables.{members}
use Rattle.tax_2023.proofs.Persons.{all_members}
use Rattle.tax_2023.proofs.Values.{given, person}

-- ---- a value of a type is what it holds

pub truth_value : (d : Domains) (v : Value) → IsOfType d v types.Boolean → v ≡ Boolean (truth v)
truth_value d (Boolean b) h = refl
truth_value d _ h = absurd h

day_value : (d : Domains) (v : Value) → IsOfType d v types.Day → v ≡ Day (day_in v)
day_value d (Day n) h = refl
day_value d _ h = absurd h

dollar_value : (d : Domains) (v : Value) → IsOfType d v types.Dollar → v ≡ Dollar (dollar_in v)
dollar_value d (Dollar n) h = refl
dollar_value d _ h = absurd h

-- an answer of a type
pub answer_is : (d : Tree) (a : Answered) → AnswersFit d a → (t : FactType) (f : Value → Value) → ((v : Value) → IsOfType (domains d a) v t → v ≡ f v) → (s : Slot) → type_at d s.fact ≡ Some t → IsSome (value_of Answer a s)
    → value_of Answer a s ≡ Some (f (unwrap_or (value_of Answer a s) (Boolean false)))
answer_is d a fit t f is s stated some =
    let v = something (value_of Answer a s) some in
    let typed = fit.typed Answer s v.0 v.1 in
    let same : typed.0 ≡ t = (let e : Some typed.0 ≡ Some t = sym typed.1 ∙ stated in cc) in
    v.1 ∙ (ap (λ (x : Value). Some x) (is v.0 (subst (IsOfType (domains d a) v.0) same typed.2)) ∙ ap (λ (o : Option Value). Some (f (unwrap_or o (Boolean false)))) (sym v.1))

-- ---- the household

abbrev pub household : Answered → Household
household a = record {
  date_of_birth = day_in (given a 0 1);
  blind = truth (given a 0 2);
  spouse_date_of_birth = day_in (given a 0 3);
  spouse_blind = truth (given a 0 4);
  married = truth (given a 0 5);
  considered_unmarried = truth (given a 0 6);
  file_jointly = truth (given a 0 7);
  spouse_died = truth (given a 0 8);
  remarried = truth (given a 0 9);
  child_in_home = truth (given a 0 10);
  paid_half_of_home = truth (given a 0 11);
  qualifying_person = truth (given a 0 12);
  spouse_itemizes = truth (given a 0 13);
  can_be_claimed = truth (given a 0 14);
  earned_income = dollar_in (given a 0 15);
  other_income = dollar_in (given a 0 16);
  persons = map (person a) (list_of a 26);
}

same_members : (a : Answered) (ms : List ℕ) → members (map (person a) ms) ≡ ms
same_members a [] = refl
same_members a (m ∷ ms) = ap (λ l. m ∷ l) (same_members a ms)

open_with : (o : Option (List ℕ)) → IsSome o → o ≡ Some (unwrap_or o [])
open_with None h = absurd cc
open_with (Some ms) h = refl

-- in a dictionary of a year with further facts behind
module _ (y : Year) (more : List Fact) (a : Answered) (fit : AnswersFit (with_facts (dictionary (figures y)) more) a) (complete : AreComplete (with_facts (dictionary (figures y)) more) a) where
  abbrev d : Tree
  d = with_facts (dictionary (figures y)) more

  as_truth : (s : Slot) → type_at d s.fact ≡ Some types.Boolean → IsSome (value_of Answer a s) → value_of Answer a s ≡ Some (Boolean (truth (unwrap_or (value_of Answer a s) (Boolean false))))
  as_truth = answer_is d a fit types.Boolean (λ v. Boolean (truth v)) (truth_value (domains d a))

  as_day : (s : Slot) → type_at d s.fact ≡ Some types.Day → IsSome (value_of Answer a s) → value_of Answer a s ≡ Some (Day (day_in (unwrap_or (value_of Answer a s) (Boolean false))))
  as_day = answer_is d a fit types.Day (λ v. Day (day_in v)) (day_value (domains d a))

  as_dollar : (s : Slot) → type_at d s.fact ≡ Some types.Dollar → IsSome (value_of Answer a s) → value_of Answer a s ≡ Some (Dollar (dollar_in (unwrap_or (value_of Answer a s) (Boolean false))))
  as_dollar = answer_is d a fit types.Dollar (λ v. Dollar (dollar_in v)) (dollar_value (domains d a))

  on_person : (m : ℕ) → IsTrue (is_member a 26 m) → AreOnPerson d a (person a m)
  on_person m st =
      let all = complete.on_persons m st in
      record {
        date_of_birth = as_day (slot 27 m) refl (all).0;
        child_relationship = as_truth (slot 28 m) refl (all.1).0;
        student = as_truth (slot 29 m) refl (all.1.1).0;
        disabled = as_truth (slot 30 m) refl (all.1.1.1).0;
        lived_with_filer = as_truth (slot 31 m) refl (all.1.1.1.1).0;
        self_supported = as_truth (slot 32 m) refl (all.1.1.1.1.1).0;
        joint_return = as_truth (slot 33 m) refl (all.1.1.1.1.1.1).0;
        related_or_member = as_truth (slot 34 m) refl (all.1.1.1.1.1.1.1).0;
        gross_income = as_dollar (slot 35 m) refl (all.1.1.1.1.1.1.1.1).0;
        supported_by_filer = as_truth (slot 36 m) refl (all.1.1.1.1.1.1.1.1.1).0;
      }

  on_persons : (ms : List ℕ) → IsTrue (list_all (λ m. is_member a 26 m) ms) → AreOnPersons d a (map (person a) ms)
  on_persons [] h = tt
  on_persons (m ∷ ms) h = (on_person m (both_left (is_member a 26 m) (list_all (λ m. is_member a 26 m) ms) h), on_persons ms (both_right (is_member a 26 m) (list_all (λ m. is_member a 26 m) ms) h))

  pub of_household : AreOfHousehold d a (household a)
  of_household =
      let all = complete.on_return in
      record {
        no_override = complete.no_override;
        date_of_birth = as_day (slot 1 0) refl (all).0;
        blind = as_truth (slot 2 0) refl (all.1).0;
        spouse_date_of_birth = as_day (slot 3 0) refl (all.1.1).0;
        spouse_blind = as_truth (slot 4 0) refl (all.1.1.1).0;
        married = as_truth (slot 5 0) refl (all.1.1.1.1).0;
        considered_unmarried = as_truth (slot 6 0) refl (all.1.1.1.1.1).0;
        file_jointly = as_truth (slot 7 0) refl (all.1.1.1.1.1.1).0;
        spouse_died = as_truth (slot 8 0) refl (all.1.1.1.1.1.1.1).0;
        remarried = as_truth (slot 9 0) refl (all.1.1.1.1.1.1.1.1).0;
        child_in_home = as_truth (slot 10 0) refl (all.1.1.1.1.1.1.1.1.1).0;
        paid_half_of_home = as_truth (slot 11 0) refl (all.1.1.1.1.1.1.1.1.1.1).0;
        qualifying_person = as_truth (slot 12 0) refl (all.1.1.1.1.1.1.1.1.1.1.1).0;
        spouse_itemizes = as_truth (slot 13 0) refl (all.1.1.1.1.1.1.1.1.1.1.1.1).0;
        can_be_claimed = as_truth (slot 14 0) refl (all.1.1.1.1.1.1.1.1.1.1.1.1.1).0;
        earned_income = as_dollar (slot 15 0) refl (all.1.1.1.1.1.1.1.1.1.1.1.1.1.1).0;
        other_income = as_dollar (slot 16 0) refl (all.1.1.1.1.1.1.1.1.1.1.1.1.1.1.1).0;
        opened = open_with (finmap.get a.lists 26) complete.opened ∙ ap (λ (ms : List ℕ). Some ms) (sym (same_members a (list_of a 26)));
        persons = on_persons (list_of a 26) (all_members (list_of a 26));
      }

pub household_is_there : (y : Year) → HouseholdIsThere y
household_is_there y d o a fit complete =
    let same = o.facts in
    let there : AreOfHousehold (dictionary (figures y)) a (household a) = of_household y [] a (subst (λ (t : Tree). AnswersFit t a) same fit) (subst (λ (t : Tree). AreComplete t a) same complete) in
    (household a, subst (λ (t : Tree). AreOfHousehold t a (household a)) (sym same) there)
