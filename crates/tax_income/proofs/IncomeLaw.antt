-- The law of the tables, of the dictionary of a year with the facts of its income.
use Rattle.std.proofs.Common.{◌≡◌, ℕ, suc, ◌+◌, ◌<◌, ◌≤◌, ◌||◌, Bool, true, false, IsTrue, nat_eq, pos, codes, List, [], ◌∷◌, ◌++◌, length, map, Option, Some, None, refl, sym, ap, ◌∙◌, subst, arith}
use Rattle.std.specs.Prelude.{unwrap_or}
use Rattle.std.specs.List.{list_all, list_any}
use Rattle.std.proofs.lemmas.Bool.{lt-ltb}
use Rattle.std.proofs.lemmas.List.{length-map}
use Rattle.common_lemmas.proofs.Bools.{both}
use Rattle.common_lemmas.proofs.Numbers.{same_number}
use Rattle.fact_values.specs.declared.fact_type.FactType.TheVariants as types
use Rattle.fact_values.specs.declared.slot.Slot.{Slot}
use Rattle.fact_values.specs.declared.value.Value.{Value}
use Rattle.fact_values.specs.declared.value.Value.TheVariants.{Boolean, Dollar, Int}
use Rattle.dict_source.specs.Tree.{Source}
use Rattle.dict_source.specs.Facts.{Fact}
use Rattle.dict_source.specs.Dictionary.{Dictionary as Tree}
use Rattle.dict_types.specs.TypedParts.{TypedDictionary}
use Rattle.three_state.specs.Results.{truth}
use Rattle.three_state.specs.declared.res.Res.TheVariants.{Complete}
use Rattle.answers.specs.Answered.{Answered, list_of, value_of}
use Rattle.answers.specs.declared.edit.Side.TheVariants.{Answer, Override}
use Rattle.dict_meaning.specs.Accepted.{Accepted, IsAccepted}
use Rattle.dict_meaning.specs.Fits.{AnswersFit, domains}
use Rattle.dict_meaning.specs.Plain.{plain}
use Rattle.evaluation.specs.Results.{slot}
use Rattle.dict_meaning.specs.Slots.{is_member}
use Rattle.tax_2023.specs.Household.{Dependent, Household}
use Rattle.tax_2023.specs.Figures.{figures}
use Rattle.tax_2023.specs.Facts as facts_of_year
use Rattle.tax_2023.specs.Facts.{dictionary}
use Rattle.tax_2023.specs.Answers.{AreComplete, AreOfHousehold, AreOnPerson, AreOnPersons}
use Rattle.tax_2023.specs.Laws.{IsModest}
use Rattle.tax_2023.specs.Tables.{cents, members, status}
use Rattle.tax_2023.proofs.Behind.{household_of_year}
use Rattle.tax_2023.proofs.Complete.{answer_is, household, of_household, truth_value}
use Rattle.tax_2023.proofs.Join.{append_stated, joined_both, stated_slot}
use Rattle.tax_2023.proofs.Persons.{all_members}
use Rattle.tax_2023.proofs.TableLaw.{is_made_of, tables}
use Rattle.tax_2023.proofs.Stated.{AllHaveStated, HasStated}
use Rattle.tax_2023.proofs.Values.{given, person, stated}
use Rattle.tax_2023.proofs.YearDictionary.{ranks}
use Rattle.tax_2023.proofs.YearLaw.{all_stated, are_given, at_zero, given_is}
use Rattle.tax_income.specs.Answers.{AllAreStated, AreNumbered}
use Rattle.tax_income.specs.Facts as facts
use Rattle.tax_income.specs.Facts.{dictionary_of, facts_of_income}
use Rattle.tax_income.specs.Figures.{income_figures}
use Rattle.tax_2023.specs.declared.years.TaxYear.{TaxYear}
use Rattle.tax_income.specs.Years.{IncomeYear, income_of}
use Rattle.tax_income.proofs.IncomeSpells.{IsWrittenIncome, written}
use Rattle.tax_income.specs.Laws.{HasChild, HasChildren, HasIncomeTables, HouseholdIsThere, IncomeTablesHold}
use Rattle.tax_income.specs.Tables.{Numbered, child_credit, credit_base, credit_children, excess, is_credit_child, is_other_dependent, other_dependents, reduction, schedule_tax, tax_after_credits}
use Rattle.tax_income.proofs.Bands.{end10_stated, end12_stated, end22_stated, end24_stated, end32_stated, end35_stated, schedule_stated, tax10_stated, tax12_stated, tax22_stated, tax24_stated, tax32_stated, tax35_stated, tax37_stated}
use Rattle.tax_income.proofs.Credit.{AreFew, after_credits_stated, child_credit_stated, credit_base_stated, credit_child_stated, credit_children_stated, excess_stated, other_dependent_stated, other_dependents_stated, reduction_stated}
use Rattle.tax_income.proofs.IncomeDictionary.{further_ranks, ranks_are}
use Rattle.tax_income.proofs.IncomeValues.{Worth, end_at, tax_between, further_stated, income_rest, of_income, stated_of_income}

-- ---- who has a number

number_on : (y : IncomeYear) (a : Answered) (numbered : Numbered) (ps : List Dependent) → AreNumbered (dictionary_of y) a numbered ps → (m : ℕ) → IsTrue (list_any (nat_eq m) (members ps)) → value_of Answer a (slot 60 m) ≡ Some (Boolean (numbered m))
number_on y a numbered [] i m st = absurd cc
number_on y a numbered (p ∷ ps) i m st = first (nat_eq m p.member) refl st (number_on y a numbered ps i.1 m)
  where
    first : (b : Bool) → nat_eq m p.member ≡ b → IsTrue (b || list_any (nat_eq m) (members ps)) → (IsTrue (list_any (nat_eq m) (members ps)) → value_of Answer a (slot 60 m) ≡ Some (Boolean (numbered m))) → value_of Answer a (slot 60 m) ≡ Some (Boolean (numbered m))
    first true e st rest = subst (λ k. value_of Answer a (slot 60 k) ≡ Some (Boolean (numbered k))) (sym (same_number m p.member e)) i.0
    first false e st rest = rest st

-- ---- all facts behind those of the year

nothing_before : (y : IncomeYear) (h : Household) (numbered : Numbered) (a : Answered) (n : ℕ) → n < 46 → further_stated y h numbered (person a) n ≡ None
nothing_before y h numbered a n less = rw (lt-ltb n 46 less) refl

module _ (y : IncomeYear) (w : IsWrittenIncome y) (t : TypedDictionary) (accepted : IsAccepted [] (of_income y t)) (a : Answered) (h : Household) (numbered : Numbered)
    (i : AreOfHousehold (dictionary (figures y.tables)) a h) (numbers : AreNumbered (dictionary_of y) a numbered h.persons)
    (few : AreFew h) (e : IsModest h.earned_income) (o : IsModest h.other_income) where
  abbrev d : Accepted
  d = of_income y t

  -- the facts from n on have what is stated
  abbrev Stated_from : ℕ → List Fact → Type 0
  Stated_from n fs = AllHaveStated d a (stated_of_income y a h numbered) (further_stated y h numbered (person a)) n fs

  unstated : (n : ℕ) (f : Fact) → (v : Option (ℕ → Value)) → v ≡ None → HasStated d a (stated_of_income y a h numbered) n f v
  unstated n f None is = tt
  unstated n f (Some v) is = absurd cc

  -- nothing is stated here of the facts of the year
  skipped : (n : ℕ) (fs : List Fact) → n + length fs ≤ 46 → Stated_from n fs
  skipped n [] le = tt
  skipped n (f ∷ fs) le = (unstated n f (further_stated y h numbered (person a) n) (nothing_before y h numbered a n (omega (arith, le))), skipped (suc n) fs (omega (arith, le)))

  once : (n : ℕ) (v : Value) (x : Source) → Worth y t a h numbered n 0 v x → (m : ℕ) → IsTrue (nat_eq m 0) → (value_of Override a (slot n m) ≡ None) × Worth y t a h numbered n m v x
  once n v x w m st = (i.no_override (slot n m), at_zero (λ m. Worth y t a h numbered n m v x) w m st)

  ends_stated : Stated_from 46 (facts.ends (income_figures y))
  ends_stated = (
    (refl, once 46 (Dollar (cents (end_at y 0 (status h)))) (facts.by_status (income_figures y) (codes "10 percent, couple") (codes "10 percent, head of household") (codes "10 percent, separately") (codes "10 percent, single")) (end10_stated y w t a h numbered)),
    (
      (refl, once 47 (Dollar (cents (end_at y 1 (status h)))) (facts.by_status (income_figures y) (codes "12 percent, couple") (codes "12 percent, head of household") (codes "12 percent, separately") (codes "12 percent, single")) (end12_stated y w t a h numbered)),
      (
        (refl, once 48 (Dollar (cents (end_at y 2 (status h)))) (facts.by_status (income_figures y) (codes "22 percent, couple") (codes "22 percent, head of household") (codes "22 percent, separately") (codes "22 percent, single")) (end22_stated y w t a h numbered)),
        (
          (refl, once 49 (Dollar (cents (end_at y 3 (status h)))) (facts.by_status (income_figures y) (codes "24 percent, couple") (codes "24 percent, head of household") (codes "24 percent, separately") (codes "24 percent, single")) (end24_stated y w t a h numbered)),
          (
            (refl, once 50 (Dollar (cents (end_at y 4 (status h)))) (facts.by_status (income_figures y) (codes "32 percent, couple") (codes "32 percent, head of household") (codes "32 percent, separately") (codes "32 percent, single")) (end32_stated y w t a h numbered)),
            (
              (refl, once 51 (Dollar (cents (end_at y 5 (status h)))) (facts.by_status (income_figures y) (codes "35 percent, couple") (codes "35 percent, head of household") (codes "35 percent, separately") (codes "35 percent, single")) (end35_stated y w t a h numbered)),
              tt,
            ),
          ),
        ),
      ),
    ),
  )

  taxes_stated : Stated_from 52 facts.taxes
  taxes_stated = (
    (refl, once 52 (Dollar (tax_between y h 0 (Some (end_at y 0 (status h))) 10)) (facts.product facts.first_band (facts.rate (codes "1/10"))) (tax10_stated y w t a h numbered e o)),
    (
      (refl, once 53 (Dollar (tax_between y h (end_at y 0 (status h)) (Some (end_at y 1 (status h))) 12)) (facts.product (facts.band (codes "/end10") (codes "/end12")) (facts.rate (codes "12/100"))) (tax12_stated y w t a h numbered e o)),
      (
        (refl, once 54 (Dollar (tax_between y h (end_at y 1 (status h)) (Some (end_at y 2 (status h))) 22)) (facts.product (facts.band (codes "/end12") (codes "/end22")) (facts.rate (codes "22/100"))) (tax22_stated y w t a h numbered e o)),
        (
          (refl, once 55 (Dollar (tax_between y h (end_at y 2 (status h)) (Some (end_at y 3 (status h))) 24)) (facts.product (facts.band (codes "/end22") (codes "/end24")) (facts.rate (codes "24/100"))) (tax24_stated y w t a h numbered e o)),
          (
            (refl, once 56 (Dollar (tax_between y h (end_at y 3 (status h)) (Some (end_at y 4 (status h))) 32)) (facts.product (facts.band (codes "/end24") (codes "/end32")) (facts.rate (codes "32/100"))) (tax32_stated y w t a h numbered e o)),
            (
              (refl, once 57 (Dollar (tax_between y h (end_at y 4 (status h)) (Some (end_at y 5 (status h))) 35)) (facts.product (facts.band (codes "/end32") (codes "/end35")) (facts.rate (codes "35/100"))) (tax35_stated y w t a h numbered e o)),
              (
                (refl, once 58 (Dollar (tax_between y h (end_at y 5 (status h)) None 37)) (facts.product facts.last_band (facts.rate (codes "37/100"))) (tax37_stated y w t a h numbered e o)),
                (
                  (refl, once 59 (Dollar (schedule_tax y h)) facts.all_taxes (schedule_stated y w t a h numbered e o)),
                  tt,
                ),
              ),
            ),
          ),
        ),
      ),
    ),
  )

  number_stated : (m : ℕ) → IsTrue (is_member a 26 m) → value_of Answer a (slot 60 m) ≡ Some (Boolean (numbered m))
  number_stated m st = number_on y a numbered h.persons numbers m (rw i.opened at st)

  children_stated : Stated_from 60 (facts.children (income_figures y))
  children_stated = (
    (refl, λ m st. number_stated m st),
    (
      (refl, λ m st. (i.no_override _, credit_child_stated y w t a h numbered m st)),
      (
        (refl, λ m st. (i.no_override _, other_dependent_stated y w t a h numbered m st)),
        tt,
      ),
    ),
  )

  credit_stated : Stated_from 63 facts.credit
  credit_stated =
      let are = are_given y.tables a h.persons i.persons in (
        (refl, once 63 (Int (pos (credit_children y h numbered))) facts.credit_child_count (credit_children_stated y w t a h numbered i.opened are)),
        (
          (refl, once 64 (Int (pos (other_dependents y h numbered))) facts.other_dependent_count (other_dependents_stated y w t a h numbered i.opened are)),
          (
            (refl, once 65 (Dollar (credit_base y h numbered)) facts.credit_base (credit_base_stated y w t a h numbered few e o)),
            (
              (refl, once 66 (Dollar (excess h)) facts.excess (excess_stated y w t a h numbered few e o)),
              (
                (refl, once 67 (Dollar (reduction h)) facts.reduction (reduction_stated y w t a h numbered few e o)),
                (
                  (refl, once 68 (Dollar (child_credit y h numbered)) facts.child_credit (child_credit_stated y w t a h numbered few e o)),
                  (
                    (refl, once 69 (Dollar (tax_after_credits y h numbered)) facts.tax_after_credits (after_credits_stated y w t a h numbered few e o)),
                    tt,
                  ),
                ),
              ),
            ),
          ),
        ),
      )

  further_have : Stated_from 1 (facts_of_year.facts (figures y.tables) ++ facts_of_income (income_figures y))
  further_have =
      let x = stated_of_income y a h numbered in
      let z = further_stated y h numbered (person a) in
      let all_before : 46 ≤ 46 = omega arith in
      let third = facts.children (income_figures y) ++ facts.credit in
      let second = facts.taxes ++ third in
      append_stated d a x z 1 (facts_of_year.facts (figures y.tables)) 46 (facts_of_income (income_figures y)) refl (skipped 1 (facts_of_year.facts (figures y.tables)) all_before)
      (append_stated d a x z 46 (facts.ends (income_figures y)) 52 second refl ends_stated
      (append_stated d a x z 52 facts.taxes 60 third refl taxes_stated
      (append_stated d a x z 60 (facts.children (income_figures y)) 63 facts.credit refl children_stated credit_stated)))

  -- plain evaluation has what is stated
  has : (s : Slot) (v : Value) → stated_slot d a (stated_of_income y a h numbered) s ≡ Some v → plain d a s ≡ Some (Complete v)
  has = joined_both [] d accepted a (stated y.tables h (person a)) (further_stated y h numbered (person a)) (all_stated y.tables (income_rest y t) a h i w.tables e o) further_have

  -- of a member of the list, with the person whom it is
  has_at : (n : ℕ) (p : Dependent) → IsTrue (list_any (nat_eq p.member) (members h.persons)) → AreOnPerson (dictionary (figures y.tables)) a p → (value : Dependent → Value)
      → ((m : ℕ) → IsTrue (is_member a 26 m) → stated_slot d a (stated_of_income y a h numbered) (slot n m) ≡ Some (value (person a m))) → plain d a (slot n p.member) ≡ Some (Complete (value p))
  has_at n p among on value is =
      let member : IsTrue (is_member a 26 p.member) = rw i.opened among in
      has (slot n p.member) (value p) (is p.member member ∙ ap (λ q. Some (value q)) (given_is y.tables a p on))

  child_has : (p : Dependent) → IsTrue (list_any (nat_eq p.member) (members h.persons)) → AreOnPerson (dictionary (figures y.tables)) a p → HasChild d y a h numbered p
  child_has p among on = record {
    credit_child = has_at 61 p among on (λ q. Boolean (is_credit_child y h numbered q)) (λ m st. rw st refl);
    other_dependent = has_at 62 p among on (λ q. Boolean (is_other_dependent y h numbered q)) (λ m st. rw st refl);
  }

  children_have : (ps : List Dependent) → IsTrue (list_all (λ m. list_any (nat_eq m) (members h.persons)) (members ps)) → AreOnPersons (dictionary (figures y.tables)) a ps → HasChildren d y a h numbered ps
  children_have [] among on = tt
  children_have (p ∷ ps) among on =
      let q = both (list_any (nat_eq p.member) (members h.persons)) (list_all (λ m. list_any (nat_eq m) (members h.persons)) (members ps)) among in
      (child_has p q.0 on.0, children_have ps q.1 on.1)

  income_tables : HasIncomeTables d y a h numbered
  income_tables = record {
    year = tables y.tables w.tables (income_rest y t) accepted a h i e o;
    schedule_tax = has (slot 59 0) (Dollar (schedule_tax y h)) refl;
    children = children_have h.persons (all_members (members h.persons)) i.persons;
    credit_child_count = has (slot 63 0) (Int (pos (credit_children y h numbered))) refl;
    other_dependent_count = has (slot 64 0) (Int (pos (other_dependents y h numbered))) refl;
    credit_base = has (slot 65 0) (Dollar (credit_base y h numbered)) refl;
    excess = has (slot 66 0) (Dollar (excess h)) refl;
    reduction = has (slot 67 0) (Dollar (reduction h)) refl;
    child_credit = has (slot 68 0) (Dollar (child_credit y h numbered)) refl;
    tax_after_credits = has (slot 69 0) (Dollar (tax_after_credits y h numbered)) refl;
  }

-- ---- the law

-- a list has at most 100 members
few_persons : (a : Answered) (h : Household) → length (list_of a 26) ≤ 100 → list_of a 26 ≡ members h.persons → AreFew h
few_persons a h le is = subst (λ n. n ≤ 100) (ap length is ∙ length-map h.persons (λ (p : Dependent). p.member)) le

income_tables_hold : (y : IncomeYear) → IsWrittenIncome y → IncomeTablesHold y
income_tables_hold y w d made a h numbered fit i n e o =
    let same : of_income y d.typed ≡ d = is_made_of d made.is_accepted (dictionary_of y) made.facts (ranks ++ further_ranks) (ranks_are (figures y.tables) (income_figures y)) in
    let accepted : IsAccepted [] (of_income y d.typed) = subst (IsAccepted []) (sym same) made.is_accepted in
    let wide : AreOfHousehold (dictionary_of y) a h = subst (λ (t : Tree). AreOfHousehold t a h) made.facts i in
    let household = household_of_year y.tables (facts_of_income (income_figures y)) a h wide in
    let numbers = subst (λ (t : Tree). AreNumbered t a numbered h.persons) made.facts n in
    let few = few_persons a h (fit.well.short 26) (ap (λ (l : Option (List ℕ)). unwrap_or l []) household.opened) in
    subst (λ (d : Accepted). HasIncomeTables d y a h numbered) same (income_tables y w d.typed accepted a h numbered household numbers few e o)

pub income_year_tables_hold : (y : TaxYear) → IncomeTablesHold (income_of y)
income_year_tables_hold y = income_tables_hold (income_of y) (written y)

-- ---- there is such a household

abbrev number_given : Answered → Numbered
number_given a m = truth (given a m 60)

numbers_given : (y : IncomeYear) (a : Answered) → AnswersFit (dictionary_of y) a → AllAreStated (dictionary_of y) a → (ms : List ℕ) → IsTrue (list_all (λ m. is_member a 26 m) ms)
    → AreNumbered (dictionary_of y) a (number_given a) (map (person a) ms)
numbers_given y a fit are [] among = tt
numbers_given y a fit are (m ∷ ms) among =
    let d = dictionary_of y in
    let q = both (is_member a 26 m) (list_all (λ m. is_member a 26 m) ms) among in
    (answer_is d a fit types.Boolean (λ v. Boolean (truth v)) (truth_value (domains d a)) (slot 60 m) refl (are m q.0), numbers_given y a fit are ms q.1)

pub household_is_there : (y : IncomeYear) → HouseholdIsThere y
household_is_there y d made a fit complete are =
    let here = dictionary_of y in
    let fits = subst (λ (t : Tree). AnswersFit t a) made.facts fit in
    let there : AreOfHousehold here a (household a) = of_household y.tables (facts_of_income (income_figures y)) a fits (subst (λ (t : Tree). AreComplete t a) made.facts complete) in
    let numbers = numbers_given y a fits (subst (λ (t : Tree). AllAreStated t a) made.facts are) (list_of a 26) (all_members (list_of a 26)) in
    (household a, subst (λ (t : Tree). AreOfHousehold t a (household a)) (sym made.facts) there, (number_given a, subst (λ (t : Tree). AreNumbered t a (number_given a) (household a).persons) (sym made.facts) numbers))
