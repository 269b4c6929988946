-- Every fact of a year has the value of the tables, also in a dictionary with further facts behind them.
use Rattle.std.proofs.Common.{◌≡◌, ℕ, zero, suc, ◌+◌, ◌≤◌, ◌||◌, ◌+ℤ◌, pos, ◌++◌, length, Bool, true, false, IsTrue, nat_eq, List, [], ◌∷◌, Option, Some, None, option_map, refl, sym, ap, ◌∙◌, subst, arith}
use Rattle.std.specs.FinMap as map
use Rattle.std.specs.List.{list_any}
use Rattle.std.proofs.lemmas.Option.{slice_get_past}
use Rattle.common_lemmas.proofs.Numbers.{same_number}
use Rattle.fact_values.specs.declared.slot.Slot.{Slot}
use Rattle.fact_values.specs.declared.value.Value.{Value}
use Rattle.fact_values.specs.declared.value.Value.TheVariants.{Boolean, Day, Dollar, Int, Members}
use Rattle.dict_source.specs.Tree.{Source}
use Rattle.dict_source.specs.Facts.{Fact}
use Rattle.answers.specs.Answered.{Answered, value_of}
use Rattle.answers.specs.declared.edit.Side.TheVariants.{Answer, Override}
use Rattle.dict_meaning.specs.Plain.{open_list}
use Rattle.evaluation.specs.Results.{slot}
use Rattle.dict_meaning.specs.Slots.{is_member}
use Rattle.tax_2023.specs.Household.{Dependent, Household}
use Rattle.tax_2023.specs.Years.{Year}
use Rattle.tax_2023.specs.Figures.{figures}
use Rattle.tax_2023.specs.Facts as facts
use Rattle.tax_2023.specs.Facts.{dictionary}
use Rattle.tax_2023.specs.Answers.{AreOfHousehold, AreOnPerson, AreOnPersons}
use Rattle.tax_2023.specs.Laws.{IsModest, status_value}
use Rattle.tax_2023.specs.Tables.{basic_amount, box_amount, boxes, deduction, dependents, is_joint, is_unmarried, members, qualifying_children, status, taxable_income}
use Rattle.tax_2023.proofs.Facts.{additional_stated, basic_stated, boxes_stated, child_stated, dependent_stated, filing_status_stated, joint_stated, relative_stated, under_age_stated, unmarried_stated, younger_stated}
use Rattle.tax_2023.proofs.Join.{append_stated}
use Rattle.tax_2023.proofs.Money.{deduction_stated, taxable_stated, total_stated}
use Rattle.tax_2023.proofs.Persons.{AreGiven, child_count_stated, count_stated, list_stated}
use Rattle.tax_2023.proofs.Spells.{IsWritten}
use Rattle.tax_2023.proofs.Stated.{AllHaveStated, HasStated}
use Rattle.tax_2023.proofs.Values.{entries, entry_value, person, stated}
use Rattle.tax_2023.proofs.YearDictionary.{Rest, Worth, of_year}

-- ---- the persons whom the answers give

pub given_is : (y : Year) (a : Answered) (p : Dependent) → AreOnPerson (dictionary (figures y)) a p → person a p.member ≡ p
given_is y a p i =
    rw (i.date_of_birth, i.child_relationship, i.student, i.disabled, i.lived_with_filer, i.self_supported, i.joint_return, i.related_or_member, i.gross_income, i.supported_by_filer) refl

pub are_given : (y : Year) (a : Answered) (ps : List Dependent) → AreOnPersons (dictionary (figures y)) a ps → AreGiven a ps
are_given y a [] i = tt
are_given y a (p ∷ ps) i = (given_is y a p i.0, are_given y a ps i.1)

on_given : (y : Year) (a : Answered) (p : Dependent) (m : ℕ) → AreOnPerson (dictionary (figures y)) a p → m ≡ p.member → AreOnPerson (dictionary (figures y)) a (person a m)
on_given y a p m i e = subst (AreOnPerson (dictionary (figures y)) a) (sym (ap (person a) e ∙ given_is y a p i)) i

on_first : (y : Year) (a : Answered) (p : Dependent) (m : ℕ) (rest : Bool) → AreOnPerson (dictionary (figures y)) a p → (IsTrue rest → AreOnPerson (dictionary (figures y)) a (person a m))
    → (b : Bool) → nat_eq m p.member ≡ b → IsTrue (b || rest) → AreOnPerson (dictionary (figures y)) a (person a m)
on_first y a p m rest i more true e st = on_given y a p m i (same_number m p.member e)
on_first y a p m rest i more false e st = more st

-- a member of the list is a person on whom there are answers
pub on_member : (y : Year) (a : Answered) (ps : List Dependent) → AreOnPersons (dictionary (figures y)) a ps → (m : ℕ) → IsTrue (list_any (nat_eq m) (members ps)) → AreOnPerson (dictionary (figures y)) a (person a m)
on_member y a [] i m st = absurd cc
on_member y a (p ∷ ps) i m st = on_first y a p m (list_any (nat_eq m) (members ps)) i.0 (on_member y a ps i.1 m) (nat_eq m p.member) refl st

-- ---- facts that stand once

pub at_zero : (P : ℕ → Type 0) → P 0 → (m : ℕ) → IsTrue (nat_eq m 0) → P m
at_zero P p zero st = p
at_zero P p (suc m) st = let none = same_number (suc m) 0 st in absurd (omega arith)

asked_once : (a : Answered) (n : ℕ) (v : Value) → value_of Answer a (slot n 0) ≡ Some v → (m : ℕ) → IsTrue (nat_eq m 0) → value_of Answer a (slot n m) ≡ Some v
asked_once a n v e = at_zero (λ m. value_of Answer a (slot n m) ≡ Some v) e

-- nothing is overridden
abbrev IsFree : Answered → Type 0
IsFree a = (s : Slot) → value_of Override a s ≡ None

derived_once : (y : Year) (t : Rest) (a : Answered) (h : Household) → IsFree a → (n : ℕ) (v : Value) (e : Source) → Worth y t a h n 0 v e
    → (m : ℕ) → IsTrue (nat_eq m 0) → (value_of Override a (slot n m) ≡ None) × Worth y t a h n m v e
derived_once y t a h free n v e w m st = (free (slot n m), at_zero (λ m. Worth y t a h n m v e) w m st)

-- ---- all facts

module _ (y : Year) (t : Rest) (a : Answered) (h : Household) (i : AreOfHousehold (dictionary (figures y)) a h) where
  opened : map.get a.lists 26 ≡ Some (members h.persons)
  opened = i.opened

  -- the facts from n on have what is stated
  abbrev Stated_from : ℕ → List Fact → Type 0
  Stated_from n fs = AllHaveStated (of_year y t) a (stated y h (person a)) (stated y h (person a)) n fs

  append : (n : ℕ) (fs : List Fact) (j : ℕ) (gs : List Fact) → j ≡ n + length fs → Stated_from n fs → Stated_from j gs → Stated_from n (fs ++ gs)
  append = append_stated (of_year y t) a (stated y h (person a)) (stated y h (person a))

  on : (m : ℕ) → IsTrue (is_member a 26 m) → AreOnPerson (dictionary (figures y)) a (person a m)
  on m st = on_member y a h.persons i.persons m (rw opened at st)

  filer_stated : Stated_from 1 facts.filer
  filer_stated =
      ((refl, asked_once a 1 (Day h.date_of_birth) i.date_of_birth), ((refl, asked_once a 2 (Boolean h.blind) i.blind), ((refl, asked_once a 3 (Day h.spouse_date_of_birth) i.spouse_date_of_birth), ((refl, asked_once a 4 (Boolean h.spouse_blind) i.spouse_blind), ((refl, asked_once a 5 (Boolean h.married) i.married), ((refl, asked_once a 6 (Boolean h.considered_unmarried) i.considered_unmarried), ((refl, asked_once a 7 (Boolean h.file_jointly) i.file_jointly), ((refl, asked_once a 8 (Boolean h.spouse_died) i.spouse_died), ((refl, asked_once a 9 (Boolean h.remarried) i.remarried), ((refl, asked_once a 10 (Boolean h.child_in_home) i.child_in_home), ((refl, asked_once a 11 (Boolean h.paid_half_of_home) i.paid_half_of_home), ((refl, asked_once a 12 (Boolean h.qualifying_person) i.qualifying_person), ((refl, asked_once a 13 (Boolean h.spouse_itemizes) i.spouse_itemizes), ((refl, asked_once a 14 (Boolean h.can_be_claimed) i.can_be_claimed), ((refl, asked_once a 15 (Dollar h.earned_income) i.earned_income), ((refl, asked_once a 16 (Dollar h.other_income) i.other_income), tt))))))))))))))))

  persons_stated : Stated_from 26 facts.persons
  persons_stated =
      ((refl, λ m st. ap open_list opened), ((refl, λ m st. (on m st).date_of_birth), ((refl, λ m st. (on m st).child_relationship), ((refl, λ m st. (on m st).student), ((refl, λ m st. (on m st).disabled), ((refl, λ m st. (on m st).lived_with_filer), ((refl, λ m st. (on m st).self_supported), ((refl, λ m st. (on m st).joint_return), ((refl, λ m st. (on m st).related_or_member), ((refl, λ m st. (on m st).gross_income), ((refl, λ m st. (on m st).supported_by_filer), tt)))))))))))

  tests_stated : IsWritten y → Stated_from 37 (facts.tests (figures y))
  tests_stated w =
      ((refl, λ m st. (i.no_override _, under_age_stated y t a h w m st)), ((refl, λ m st. (i.no_override _, younger_stated y t a h m st)), ((refl, λ m st. (i.no_override _, child_stated y t a h m st)), ((refl, λ m st. (i.no_override _, relative_stated y t a h w m st)), ((refl, λ m st. (i.no_override _, dependent_stated y t a h m st)), tt)))))

  filed_stated : IsWritten y → IsModest h.earned_income → IsModest h.other_income → Stated_from 17 (facts.filed (figures y))
  filed_stated w e o =
      ((refl, derived_once y t a h i.no_override 17 (Boolean (is_joint h)) facts.joint (joint_stated y t a h)), ((refl, derived_once y t a h i.no_override 18 (Boolean (is_unmarried h)) facts.unmarried (unmarried_stated y t a h)), ((refl, derived_once y t a h i.no_override 19 (status_value (status h)) facts.filing_status (filing_status_stated y t a h)), ((refl, derived_once y t a h i.no_override 20 (Dollar (basic_amount y h)) (facts.basic_amount (figures y)) (basic_stated y t a h w)), ((refl, derived_once y t a h i.no_override 21 (Dollar (box_amount y h)) (facts.additional_amount (figures y)) (additional_stated y t a h w)), ((refl, derived_once y t a h i.no_override 22 (Int (pos (boxes y h))) (facts.boxes (figures y)) (boxes_stated y t a h w)), ((refl, derived_once y t a h i.no_override 23 (Dollar (deduction y h)) (facts.standard_deduction (figures y)) (deduction_stated y t a h w e)), ((refl, derived_once y t a h i.no_override 24 (Dollar (h.earned_income +ℤ h.other_income)) facts.total_income (total_stated y t a h e o)), ((refl, derived_once y t a h i.no_override 25 (Dollar (taxable_income y h)) facts.taxable_income (taxable_stated y t a h w e o)), tt)))))))))

  counts_stated : Stated_from 42 facts.counts
  counts_stated =
      let given = are_given y a h.persons i.persons in
      ((refl, derived_once y t a h i.no_override 42 (Members (members (dependents y h))) facts.dependent_list (list_stated y t a h opened given)), ((refl, derived_once y t a h i.no_override 43 (Int (pos (length (dependents y h)))) facts.dependent_count (count_stated y t a h opened given)), ((refl, derived_once y t a h i.no_override 44 (Int (pos (length (qualifying_children y h)))) facts.qualifying_child_count (child_count_stated y t a h opened given)), (tt, tt))))

  -- nothing is stated of what stands behind the facts of the year
  rest_stated : (n : ℕ) (fs : List Fact) → 45 ≤ n → Stated_from n fs
  rest_stated n [] le = tt
  rest_stated n (f ∷ fs) le = (unstated n f le, rest_stated (suc n) fs (omega arith))
    where
      none : (o : Option (ℕ → Value)) (n : ℕ) (f : Fact) → o ≡ None → HasStated (of_year y t) a (stated y h (person a)) n f o
      none None n f e = tt
      none (Some v) n f e = absurd cc

      unstated : (n : ℕ) (f : Fact) → 45 ≤ n → HasStated (of_year y t) a (stated y h (person a)) n f (stated y h (person a) n)
      unstated zero f le = absurd (omega arith)
      unstated (suc i) f le = none (stated y h (person a) (suc i)) (suc i) f (ap (option_map (entry_value h (person a))) (slice_get_past (entries y) i (omega arith)))

  pub all_stated : IsWritten y → IsModest h.earned_income → IsModest h.other_income → Stated_from 1 (facts.facts (figures y) ++ t.facts)
  all_stated w e o =
      let fourth = facts.tests (figures y) ++ facts.counts in
      let third = facts.persons ++ fourth in
      let second = facts.filed (figures y) ++ third in
      append 1 (facts.facts (figures y)) 46 t.facts refl
      (append 1 facts.filer 17 second refl filer_stated
      (append 17 (facts.filed (figures y)) 26 third refl (filed_stated w e o)
      (append 26 facts.persons 37 fourth refl persons_stated
      (append 37 (facts.tests (figures y)) 42 facts.counts refl (tests_stated w) counts_stated))))
      (rest_stated 46 t.facts (omega arith))
