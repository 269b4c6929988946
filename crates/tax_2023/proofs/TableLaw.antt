-- The law of the tables, of the facts of a year.
use Rattle.std.proofs.Common.{◌≡◌, ℕ, IsTrue, nat_eq, pos, List, [], ◌∷◌, length, Some, Result, Ok, refl, sym, ap, ◌∙◌, subst}
use Rattle.std.specs.List.{list_all, list_any}
use Rattle.common_lemmas.proofs.Bools.{both}
use Rattle.fact_values.specs.declared.slot.Slot.{Slot}
use Rattle.fact_values.specs.declared.value.Value.{Value}
use Rattle.fact_values.specs.declared.value.Value.TheVariants.{Boolean, Dollar, Int, Members}
use Rattle.dict_source.specs.Dictionary.{Dictionary as Tree}
use Rattle.dict_types.specs.DictFaults.{IsTypedDictionary}
use Rattle.dict_types.specs.TypedParts.{TypedDictionary}
use Rattle.dict_rules.specs.declared.fault.TypeFault.{TypeFault}
use Rattle.dict_types.proofs.FoundLaws.{well_typed_is_found}
use Rattle.dict_order.specs.MentionGraph.{mention_graph}
use Rattle.dict_order.specs.Ranks.{are_ranks}
use Rattle.dict_order.proofs.RankLaws.{only_one, test_tells}
use Rattle.three_state.specs.declared.res.Res.TheVariants.{Complete}
use Rattle.evaluation.specs.Sure.{first_found}
use Rattle.evaluation.proofs.Sureness.{sure-find}
use Rattle.answers.specs.Answered.{Answered}
use Rattle.dict_meaning.specs.Accepted.{Accepted, IsAccepted}
use Rattle.dict_meaning.specs.Plain.{expression, or_override, plain}
use Rattle.dict_meaning.specs.Dependencies.{outermost}
use Rattle.evaluation.specs.Results.{slot}
use Rattle.dict_meaning.specs.Slots.{is_member}
use Rattle.dict_meaning.proofs.PlainLaws.{plain_is_recursive}
use Rattle.tax_2023.specs.Household.{Dependent, Household, single, separately, jointly, surviving_spouse, head_of_household}
use Rattle.tax_2023.specs.Years.{Year, tables_of}
use Rattle.tax_2023.specs.declared.years.TaxYear.{TaxYear}
use Rattle.tax_2023.specs.Figures.{figures}
use Rattle.tax_2023.specs.Facts as facts
use Rattle.tax_2023.specs.Facts.{dictionary}
use Rattle.tax_2023.specs.Answers.{AreOfHousehold, AreOnPerson, AreOnPersons}
use Rattle.tax_2023.specs.Tables.{basic_amount, box_amount, boxes, deduction, dependents, is_dependent, is_qualifying_child, is_qualifying_relative, is_under_age, is_younger, members, qualifying_children, status, taxable_income}
use Rattle.tax_2023.specs.Laws.{HasPerson, HasPersons, HasTables, IsModest, IsOfYear, StatusesAreNamed, TablesHold, status_value}
use Rattle.tax_2023.proofs.Join.{all_known, joined, stated_slot}
use Rattle.tax_2023.proofs.Persons.{all_members, kept_members}
use Rattle.tax_2023.proofs.Spells.{IsWritten, written}
use Rattle.tax_2023.proofs.Stated.{Stated, known}
use Rattle.tax_2023.proofs.Values.{person, stated}
use Rattle.tax_2023.proofs.YearDictionary.{Rest, no_rest, of_year, parts, ranks, ranks_are}
use Rattle.tax_2023.proofs.YearLaw.{all_stated, are_given, given_is}

module _ (y : Year) (written : IsWritten y) (t : Rest) (accepted : IsAccepted [] (of_year y t)) (a : Answered) (h : Household) (i : AreOfHousehold (dictionary (figures y)) a h) (earned : IsModest h.earned_income) (other : IsModest h.other_income) where
  abbrev d : Accepted
  d = of_year y t

  abbrev values : Stated
  values = stated y h (person a)

  -- plain evaluation has what is stated
  has : (s : Slot) (v : Value) → stated_slot d a values s ≡ Some v → plain d a s ≡ Some (Complete v)
  has = joined [] d accepted a values (all_stated y t a h i written earned other)

  -- of a member of the list, with the person whom it is
  has_at : (n : ℕ) (p : Dependent) → IsTrue (list_any (nat_eq p.member) (members h.persons)) → AreOnPerson (dictionary (figures y)) a p → (value : Dependent → Value)
      → ((m : ℕ) → IsTrue (is_member a 26 m) → stated_slot d a values (slot n m) ≡ Some (value (person a m))) → plain d a (slot n p.member) ≡ Some (Complete (value p))
  has_at n p among on value stated =
      let member : IsTrue (is_member a 26 p.member) = rw i.opened among in
      has (slot n p.member) (value p) (stated p.member member ∙ ap (λ q. Some (value q)) (given_is y a p on))

  person_has : (p : Dependent) → IsTrue (list_any (nat_eq p.member) (members h.persons)) → AreOnPerson (dictionary (figures y)) a p → HasPerson d y a h p
  person_has p among on = record {
    under_age = has_at 37 p among on (λ q. Boolean (is_under_age y q)) (λ m st. rw st refl);
    younger = has_at 38 p among on (λ q. Boolean (is_younger h q)) (λ m st. rw st refl);
    qualifying_child = has_at 39 p among on (λ q. Boolean (is_qualifying_child y h q)) (λ m st. rw st refl);
    qualifying_relative = has_at 40 p among on (λ q. Boolean (is_qualifying_relative y h q)) (λ m st. rw st refl);
    is_dependent = has_at 41 p among on (λ q. Boolean (is_dependent y h q)) (λ m st. rw st refl);
  }

  persons_have : (ps : List Dependent) → IsTrue (list_all (λ m. list_any (nat_eq m) (members h.persons)) (members ps)) → AreOnPersons (dictionary (figures y)) a ps → HasPersons d y a h ps
  persons_have [] among on = tt
  persons_have (p ∷ ps) among on =
      let q = both (list_any (nat_eq p.member) (members h.persons)) (list_all (λ m. list_any (nat_eq m) (members h.persons)) (members ps)) among in
      (person_has p q.0 on.0, persons_have ps q.1 on.1)

  first : plain d a (slot 45 0) ≡ Some (first_found (members (dependents y h)))
  first =
      let so = all_known d a values 45 (plain d a) (λ s v e low. has s v e) in
      let among : IsTrue (list_all (λ m. is_member a 26 m) (members h.persons)) = rw i.opened (all_members (members h.persons)) in
      let found = sure-find (known d a values (plain d a) 45) so (facts.persons_path) (facts.they_depend) (outermost 0) refl among in
      plain_is_recursive [] d accepted a (slot 45 0)
      ∙ ap (λ o. Some (or_override o (expression d.tree (plain d a) (slot 45 0) facts.first_dependent))) (i.no_override (slot 45 0))
      ∙ ap (λ r. Some r) (found ∙ ap first_found (kept_members a (is_dependent y h) h.persons (are_given y a h.persons i.persons)))

  pub tables : HasTables d y a h
  tables = record {
    filing_status = has (slot 19 0) (status_value (status h)) refl;
    basic_amount = has (slot 20 0) (Dollar (basic_amount y h)) refl;
    additional_amount = has (slot 21 0) (Dollar (box_amount y h)) refl;
    boxes = has (slot 22 0) (Int (pos (boxes y h))) refl;
    standard_deduction = has (slot 23 0) (Dollar (deduction y h)) refl;
    taxable_income = has (slot 25 0) (Dollar (taxable_income y h)) refl;
    persons = persons_have h.persons (all_members (members h.persons)) i.persons;
    dependent_list = has (slot 42 0) (Members (members (dependents y h))) refl;
    dependent_count = has (slot 43 0) (Int (pos (length (dependents y h)))) refl;
    qualifying_child_count = has (slot 44 0) (Int (pos (length (qualifying_children y h)))) refl;
    first_dependent = first;
  }

-- ---- any dictionary with these facts has these ranks

pub is_made_of : (d : Accepted) → IsAccepted [] d → (facts : Tree) → d.tree ≡ facts → (rs : List ℕ) → IsTrue (are_ranks (mention_graph facts) rs) → parts facts d.typed rs ≡ d
is_made_of d i facts same rs are =
    let tested = subst (λ (x : Tree). IsTrue (are_ranks (mention_graph x) rs)) (sym same) are in
    let one : rs ≡ d.ranks = only_one (mention_graph d.tree) rs d.ranks (test_tells (mention_graph d.tree) rs tested) i.ranked in
    ap (λ (x : Tree). parts x d.typed rs) (sym same) ∙ ap (parts d.tree d.typed) one

is_of_year : (y : Year) (d : Accepted) → IsOfYear y d → of_year y (no_rest d.typed) ≡ d
is_of_year y d o = is_made_of d o.is_accepted (dictionary (figures y)) o.facts ranks (ranks_are (figures y))

-- ---- there is one

abbrev found : TypedDictionary → Result TypedDictionary TypeFault
found t = Ok t

same_types : (d : Tree) (t u : TypedDictionary) → IsTypedDictionary d [] t → IsTypedDictionary d [] u → t ≡ u
same_types d t u h k = let same : found t ≡ found u = sym (well_typed_is_found d [] t h) ∙ well_typed_is_found d [] u k in cc

pub one_of_year : (y : Year) (d e : Accepted) → IsOfYear y d → IsOfYear y e → d ≡ e
one_of_year y d e o p =
    let typed = subst (λ (x : Tree). IsTypedDictionary x [] d.typed) (o.facts ∙ sym p.facts) o.is_accepted.typed in
    sym (is_of_year y d o) ∙ ap (λ (t : TypedDictionary). of_year y (no_rest t)) (same_types e.tree d.typed e.typed typed p.is_accepted.typed) ∙ is_of_year y e p

-- ---- the law

tables_hold : (y : Year) → IsWritten y → TablesHold y
tables_hold y w d o a h i earned other =
    let same = is_of_year y d o in
    let accepted : IsAccepted [] (of_year y (no_rest d.typed)) = subst (IsAccepted []) (sym same) o.is_accepted in
    let household : AreOfHousehold (dictionary (figures y)) a h = subst (λ (t : Tree). AreOfHousehold t a h) o.facts i in
    subst (λ (e : Accepted). HasTables e y a h) same (tables y w (no_rest d.typed) accepted a h household earned other)

pub year_tables_hold : (y : TaxYear) → TablesHold (tables_of y)
year_tables_hold y = tables_hold (tables_of y) (written y)

-- ---- filing statuses by name

pub statuses_are_named : (y : Year) → StatusesAreNamed y
statuses_are_named y single = refl
statuses_are_named y separately = refl
statuses_are_named y jointly = refl
statuses_are_named y surviving_spouse = refl
statuses_are_named y head_of_household = refl
