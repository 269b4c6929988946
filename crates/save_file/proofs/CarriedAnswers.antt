-- The answers of the kept lines of a carried text.
use Rattle.save_file.proofs.Common.{Accepted, All-cons, All-contains_itself, All-from_recursion, All-get_or, All-head, All-nil, All-tail, All-weaker, AllByRecursion, Answer, Answered, AnswersFit, AreApart, AreBelow, ArePlaced, Bool, CarriedLine, CarriedRead, CarriedText, Contains, Contains-append_left, Contains-push, Contains-push_cases, EntryLine, Err, Fact, FactPath, FactType, FactsRise, FromOne, Global, HasItsForm, HasPath, IfErr, IfOk, IsAccepted, IsAfter, IsBelow, IsBelowNext, IsCarried, IsCarry, IsCarryOf, IsIn, IsMemberList, IsNotIn, IsOfFact, IsOfLists, IsPlaced, IsSome, IsTrue, IsWithout, List, LoadFault, Member, NamesOther, NoMember, None, Numbered, Ok, OnOk, Option, Override, Pairs, Refusal, RefusesCarried, Result, Rules, SharesNone, Side, Slot, SlotPath, Some, Stands, TextLine, Tree, UnknownFact, Value, WellFormed, [], and_intro, and_then, answered, ap, append-nil, append_assoc, applied, arith, both, both_some, bytes_eq, carried, carried_lines, chosen, codes, collection, cond, counted, decided, drop, drop_more, dropped_numbers, end_line, entered, entry, entry_at, entry_stands, equal_number, fact_at, fact_of, fact_within, false, find, find_path-first, first_of, flat_map, get_map_of, get_or, given_fit, given_value, guarded, has_its_member, home, home_is_collection, if◌then◌else◌, inl, inr, is_list, is_member, is_none, joined, keeps, kept_collection, kept_value, key_text, lacks_member, length, length-append, length-map, line_of, line_text, list_any, lists_member, lookup, map, map_of, member_of, members_in, named_fact, nat_eq, nat_tests, none-some, not, numbers_failing, opened, opened_at, opens_fact, opens_of, option_map, path_of, recursion_from_All, refl, same_Some, same_bytes, same_number, sets, slot, slot_found, slot_of, slot_same, slot_same-equal, slot_same-itself, stands, string_bytes, subst, suc, sym, taken_value, takes, text_of, tree_of, true, type_at, unwrap_or, value_at, value_of, value_refusals, value_spelled, when, zero, ℕ, ◌&&◌, ◌++◌, ◌+◌, ◌<◌, ◌||◌, ◌↔◌, ◌∙◌, ◌∷◌, ◌≡◌, ◌≤◌, ◌⊎◌}
use Rattle.std.specs.List.{All}
use Rattle.answers.specs.GivenLists.{AreMemberLists}
use Rattle.dict_source.specs.Targets.{find_global}
use Rattle.dict_rules.specs.NoCollection.{is_written_list}
use Rattle.dict_meaning.proofs.FitChangeLaws.{allowed_changes_fit}
use Rattle.dict_meaning.proofs.SetLaws.{is_side, same_side, set_has, set_is}
use Rattle.graph_session.proofs.NamingLaws.{fact_found, named_stands}
use Rattle.graph_session.proofs.TypeLaws.{value_typed}
use Rattle.value_text.proofs.ParsingLaws.{value_again}
use Rattle.value_text.proofs.TypeLaws.{of_type}
use Rattle.saved_text.proofs.Lines.{all_of, at_first, either_first, find_some, find_there, found_in_all, later_too, mapped_there, none_there, one_of_all}
use Rattle.saved_text.proofs.SlotTexts.{list_there as list_is_there}
use Rattle.save_file.specs.Keeping.{Giving, IsGiven, IsGiving, IsLinePlaced, is_number, noted, opened_by, with_line, with_value}
use Rattle.save_file.specs.declared.carrying.Carried.{Carried}
use Rattle.saved_text.specs.declared.fault.LoadFault.TheVariants.{NoMemory}
use Rattle.saved_text.proofs.CarriedLines.{pairs_before}
use Rattle.saved_text.proofs.MemberParsing.{in_each}
use Rattle.std.specs.FinMap as map
use Rattle.fact_paths.specs.declared.fact_path.FactPath.TheVariants as facts_by

-- ==== the collections of the kept lists

pub list_within : (d : Tree) (c : ℕ) → IsTrue (is_list d c) → (0 < c) × (c ≤ length d.facts)
list_within d c h = let there = list_is_there d c h in fact_within d.facts c there.0 there.1

-- ---- the collection of a name

pub kept_parts : (d : Tree) (name : List ℕ) (c : ℕ) → kept_collection d name ≡ Some c → IsTrue (is_list d c) × (named_fact d (Global name) ≡ Some c)
kept_parts d name c e = (subst (λ (n : ℕ). IsTrue (is_list d n)) parts.1 parts.0, at (named_fact d (Global name)) refl parts.0 parts.1)
  where
    parts : (is_list d (fact_of d (Global name)) ≡ true) × (fact_of d (Global name) ≡ c)
    parts = chosen (is_list d (fact_of d (Global name))) (fact_of d (Global name)) c e

    at : (o : Option ℕ) → named_fact d (Global name) ≡ o → is_list d (unwrap_or o 0) ≡ true → unwrap_or o 0 ≡ c → named_fact d (Global name) ≡ Some c
    at None e list same = absurd cc
    at (Some n) e list same = e ∙ ap Some same

pub named_kept : (d : Tree) (name : List ℕ) (c : ℕ) → IsTrue (is_list d c) → named_fact d (Global name) ≡ Some c → kept_collection d name ≡ Some c
named_kept d name c list named =
    let same : fact_of d (Global name) ≡ c = ap (λ (o : Option ℕ). unwrap_or o 0) named in
    ap (λ (n : ℕ). if is_list d n then Some n else None) same ∙ ap (λ (b : Bool). if b then Some c else None) list

pub same_name : (d : Tree) (n m : List ℕ) (c : ℕ) → kept_collection d n ≡ Some c → kept_collection d m ≡ Some c → n ≡ m
same_name d n m c e f =
    let has : HasPath d.facts (facts_by.Global n) c = ((find_path-first d.facts (facts_by.Global n) c).0 (kept_parts d n c e).1).here in
    let other : HasPath d.facts (facts_by.Global m) c = ((find_path-first d.facts (facts_by.Global m) c).0 (kept_parts d m c f).1).here in
    let one : has.fact ≡ other.fact = same_Some has.fact other.fact (sym has.is_there ∙ other.is_there) in
    let path : Some (facts_by.Global n) ≡ Some (facts_by.Global m) = sym has.path_is ∙ ap (λ f. f.path) one ∙ other.path_is in
    cc

number_is : (q : ℕ) (o : Option ℕ) → is_number q o ≡ true → o ≡ Some q
number_is q None e = absurd cc
number_is q (Some n) e = ap Some (same_number n q e)

is_its_number : (q : ℕ) (o : Option ℕ) → o ≡ Some q → is_number q o ≡ true
is_its_number q None e = absurd cc
is_its_number q (Some n) e = ap (λ (k : ℕ). nat_eq k q) (same_Some n q e) ∙ equal_number q

-- ---- what the lists give

both_ways : (m : ℕ) (ns : List ℕ) → IsNotIn m ns → IsIn m ns → ⊥
both_ways m ns out there = cc

shares_back : (a b : CarriedLine) → SharesNone a b → SharesNone b a
shares_back a b none m i = at (list_any (nat_eq m) (members_in a)) refl
  where
    at : (t : Bool) → list_any (nat_eq m) (members_in a) ≡ t → t ≡ false
    at false e = refl
    at true e = absurd (both_ways m (members_in b) (none m e) i)

-- a line that opens the collection
opening_is : (d : Tree) (q : ℕ) (line : CarriedLine) → opens_fact d q line ≡ true → (name : List ℕ) × (line ≡ collection name (members_in line)) × (kept_collection d name ≡ Some q)
opening_is d q (collection name ms) e = (name, refl, number_is q (kept_collection d name) e)
opening_is d q (entry side path text) e = absurd cc

module _ (d : Tree) (lines : List CarriedLine) where
  -- a line gives the collection these members
  abbrev IsFrom : ℕ × List ℕ → Type 0
  IsFrom e = (name : List ℕ) × Contains lines (collection name e.1) × (kept_collection d name ≡ Some e.0)

  from_found : (q : ℕ) (l : CarriedLine) → find (opens_fact d q) lines ≡ Some l → IsFrom (q, members_in l)
  from_found q l e =
      let found = find_some (opens_fact d q) lines l e in
      let is = opening_is d q l found.1 in
      (is.0, subst (Contains lines) is.1 found.0, is.2)

  all_from : (from n : ℕ) → All IsFrom (flat_map (opened_at d lines) (counted from n))
  all_from from zero = All-nil IsFrom
  all_from from (suc n) = at (find (opens_fact d from) lines) refl (all_from (suc from) n)
    where
      at : (o : Option CarriedLine) → find (opens_fact d from) lines ≡ o → All IsFrom (flat_map (opened_at d lines) (counted (suc from) n)) → All IsFrom (opened_by from o ++ flat_map (opened_at d lines) (counted (suc from) n))
      at None e rest = rest
      at (Some l) e rest = All-cons IsFrom (from, members_in l) (flat_map (opened_at d lines) (counted (suc from) n)) (from_found from l e) rest

  all_after : (c from n : ℕ) → c < from → All (IsAfter c) (flat_map (opened_at d lines) (counted from n))
  all_after c from zero low = All-nil (IsAfter c)
  all_after c from (suc n) low = at (find (opens_fact d from) lines) (all_after c (suc from) n (omega (arith, low)))
    where
      at : (o : Option CarriedLine) → All (IsAfter c) (flat_map (opened_at d lines) (counted (suc from) n)) → All (IsAfter c) (opened_by from o ++ flat_map (opened_at d lines) (counted (suc from) n))
      at None rest = rest
      at (Some l) rest = All-cons (IsAfter c) (from, members_in l) (flat_map (opened_at d lines) (counted (suc from) n)) low rest

  rises : (from n : ℕ) → FactsRise (flat_map (opened_at d lines) (counted from n))
  rises from zero = tt
  rises from (suc n) = at (find (opens_fact d from) lines) (rises (suc from) n)
    where
      at : (o : Option CarriedLine) → FactsRise (flat_map (opened_at d lines) (counted (suc from) n)) → FactsRise (opened_by from o ++ flat_map (opened_at d lines) (counted (suc from) n))
      at None rest = rest
      at (Some l) rest = (all_after from (suc from) n (omega arith), rest)

  -- and the first line that opens a collection is found
  looked_up : (q : ℕ) (l : CarriedLine) → find (opens_fact d q) lines ≡ Some l → (from n : ℕ) → from ≤ q → q < from + n → lookup (nat_eq q) (flat_map (opened_at d lines) (counted from n)) ≡ Some (members_in l)
  looked_up q l e from zero low high = absurd (omega (arith, low, high))
  looked_up q l e from (suc n) low high = at (nat_eq q from) refl (looked_up q l e (suc from) n)
    where
      here : q ≡ from → lookup (nat_eq q) (opened_by from (find (opens_fact d from) lines) ++ flat_map (opened_at d lines) (counted (suc from) n)) ≡ Some (members_in l)
      here same =
          ap (λ (o : Option CarriedLine). lookup (nat_eq q) (opened_by from o ++ flat_map (opened_at d lines) (counted (suc from) n))) (ap (λ (k : ℕ). find (opens_fact d k) lines) (sym same) ∙ e)
          ∙ ap (λ (b : Bool). cond b (Some (members_in l)) (lookup (nat_eq q) (flat_map (opened_at d lines) (counted (suc from) n)))) (ap (nat_eq q) (sym same) ∙ equal_number q)

      later : (o : Option CarriedLine) → nat_eq q from ≡ false → lookup (nat_eq q) (flat_map (opened_at d lines) (counted (suc from) n)) ≡ Some (members_in l) → lookup (nat_eq q) (opened_by from o ++ flat_map (opened_at d lines) (counted (suc from) n)) ≡ Some (members_in l)
      later None other rest = rest
      later (Some k) other rest = ap (λ (b : Bool). cond b (Some (members_in k)) (lookup (nat_eq q) (flat_map (opened_at d lines) (counted (suc from) n)))) other ∙ rest

      at : (b : Bool) → nat_eq q from ≡ b → (suc from ≤ q → q < suc from + n → lookup (nat_eq q) (flat_map (opened_at d lines) (counted (suc from) n)) ≡ Some (members_in l))
          → lookup (nat_eq q) (opened_by from (find (opens_fact d from) lines) ++ flat_map (opened_at d lines) (counted (suc from) n)) ≡ Some (members_in l)
      at true h rest = here (same_number q from h)
      at false h rest = later (find (opens_fact d from) lines) h (rest (let up : suc from ≤ q = grind (arith, nat_tests) in up) (omega (arith, high)))

-- none opens what is no collection
pub none_opens : (d : Tree) (q : ℕ) (lines : List CarriedLine) → is_list d q ≡ false → find (opens_fact d q) lines ≡ None
none_opens d q lines none = at (find (opens_fact d q) lines) refl
  where
    at : (o : Option CarriedLine) → find (opens_fact d q) lines ≡ o → o ≡ None
    at None e = refl
    at (Some l) e = absurd (let is : is_list d q ≡ true = (kept_parts d (from_found d lines q l e).0 q (from_found d lines q l e).2).0 in cc)

-- ---- of a carried text

module _ (d : Tree) (next : ℕ) (lines : List CarriedLine) (is : IsCarried (record { next = next; lines = lines })) where
  pub list_opened : (name ms : List ℕ) (q : ℕ) → Contains lines (collection name ms) → kept_collection d name ≡ Some q → lookup (nat_eq q) (opened d lines) ≡ Some ms
  list_opened name ms q h kept =
      let within = list_within d q (kept_parts d name q kept).0 in
      looked_up d lines q l.0 l.1 1 (length d.facts) within.0 (omega (arith, within.1)) ∙ ap Some (one (either_first NamesOther lines l.0 (collection name ms) is.once found.0 h))
    where
      -- the first line that opens it
      l : (l : CarriedLine) × (find (opens_fact d q) lines ≡ Some l)
      l = find_there (opens_fact d q) lines (collection name ms) h (is_its_number q (kept_collection d name) kept)

      found : Contains lines l.0 × (opens_fact d q l.0 ≡ true)
      found = find_some (opens_fact d q) lines l.0 l.1

      keys : key_text l.0 ≡ codes "list /" ++ name
      keys =
          let opens = opening_is d q l.0 found.1 in
          ap key_text opens.1 ∙ ap (λ (n : List ℕ). codes "list /" ++ n) (same_name d opens.0 name q opens.2 kept)

      -- is the line of the name
      one : (l.0 ≡ collection name ms) ⊎ (NamesOther l.0 (collection name ms) ⊎ NamesOther (collection name ms) l.0) → members_in l.0 ≡ ms
      one (inl same) = ap members_in same
      one (inr (inl other)) = absurd (other keys)
      one (inr (inr other)) = absurd (other (sym keys))

  pub opened_list : (q : ℕ) (ms : List ℕ) → lookup (nat_eq q) (opened d lines) ≡ Some ms → (name : List ℕ) × Contains lines (collection name ms) × (kept_collection d name ≡ Some q)
  opened_list q ms e = found_in_all (IsFrom d lines) (opened d lines) q ms (all_from d lines 1 (length d.facts)) e

  -- ---- what may be opened

  pub opened_rise : FactsRise (opened d lines)
  opened_rise = rises d lines 1 (length d.facts)

  pub opened_below : AreBelow next (opened d lines)
  opened_below =
      All-weaker (IsFrom d lines) (IsBelow next) (λ e from m i. in_each (λ m. m < next) e.1 (one_of_all (IsBelowNext next) lines (collection from.0 e.1) is.below from.1) m i) (opened d lines) (all_from d lines 1 (length d.facts))

  pub opened_members : AreMemberLists (opened d lines)
  opened_members = All-weaker (IsFrom d lines) (λ (e : ℕ × List ℕ). IsMemberList e.1) (λ e from. (one_of_all HasItsForm lines (collection from.0 e.1) is.forms from.1).1) (opened d lines) (all_from d lines 1 (length d.facts))

  pub opened_lists : All (λ (e : ℕ × List ℕ). IsTrue (is_list d e.0)) (opened d lines)
  opened_lists = All-weaker (IsFrom d lines) (λ (e : ℕ × List ℕ). IsTrue (is_list d e.0)) (λ e from. (kept_parts d from.0 e.0 from.2).0) (opened d lines) (all_from d lines 1 (length d.facts))

  apart : (e f : ℕ × List ℕ) → IsAfter e.0 f → IsFrom d lines e → IsFrom d lines f → IsWithout e.1 f
  apart e f after of_e of_f = at (either_first SharesNone lines (collection of_e.0 e.1) (collection of_f.0 f.1) is.apart of_e.1 of_f.1)
    where
      other : collection of_e.0 e.1 ≡ collection of_f.0 f.1 → ⊥
      other same =
          let names : of_e.0 ≡ of_f.0 = cc in
          let one : e.0 ≡ f.0 = same_Some e.0 f.0 (sym of_e.2 ∙ ap (kept_collection d) names ∙ of_f.2) in
          omega (arith, after, one)

      at : (collection of_e.0 e.1 ≡ collection of_f.0 f.1) ⊎ (SharesNone (collection of_e.0 e.1) (collection of_f.0 f.1) ⊎ SharesNone (collection of_f.0 f.1) (collection of_e.0 e.1)) → SharesNone (collection of_e.0 e.1) (collection of_f.0 f.1)
      at (inl same) = absurd (other same)
      at (inr (inl one)) = one
      at (inr (inr two)) = shares_back (collection of_f.0 f.1) (collection of_e.0 e.1) two

  pub opened_apart : AreApart (opened d lines)
  opened_apart = all_apart (opened d lines) opened_rise (all_from d lines 1 (length d.facts))
    where
      first_apart : (e : ℕ × List ℕ) → IsFrom d lines e → (fs : List (ℕ × List ℕ)) → All (IsAfter e.0) fs → All (IsFrom d lines) fs → All (IsWithout e.1) fs
      first_apart e from [] after all = All-nil (IsWithout e.1)
      first_apart e from (f ∷ fs) after all =
          All-cons (IsWithout e.1) f fs (apart e f (All-head (IsAfter e.0) f fs after) from (All-head (IsFrom d lines) f fs all))
          (first_apart e from fs (All-tail (IsAfter e.0) f fs after) (All-tail (IsFrom d lines) f fs all))

      all_apart : (xs : List (ℕ × List ℕ)) → FactsRise xs → All (IsFrom d lines) xs → AreApart xs
      all_apart [] rise all = tt
      all_apart (e ∷ xs) rise all = (first_apart e (All-head (IsFrom d lines) e xs all) xs rise.0 (All-tail (IsFrom d lines) e xs all), all_apart xs rise.1 (All-tail (IsFrom d lines) e xs all))

-- ==== the answers of the kept entries, one after another

-- a value that was read is of the fact's type
pub spelled_fits : (d : Tree) (b : Answered) (fact : ℕ) (text : List ℕ) (v : Value) → value_spelled d fact text ≡ Some v → IsOfFact d b fact v
spelled_fits d b fact text v e =
    let found = both_some (λ (t : FactType). value_at d.enums t text) (type_at d fact) v e in
    (found.0, found.1, value_typed d b found.0 v (of_type d.enums found.0 text v (value_again d.enums found.0 text v found.2)))

pub side_itself : (side : Side) → is_side side side ≡ true
side_itself Answer = refl
side_itself Override = refl

-- ---- a value that is kept

pub kept_takes : (r : Rules) (side : Side) (fact : ℕ) (text : List ℕ) (v : Value) → kept_value r side fact text ≡ Some v → IsTrue (takes side (tree_of r) fact) × (value_spelled (tree_of r) fact text ≡ Some v)
kept_takes r Answer fact text v e =
    let parts = guarded (takes Answer (tree_of r) fact && is_none (first_of (value_refusals r fact text))) (value_spelled (tree_of r) fact text) v e in
    ((both (takes Answer (tree_of r) fact) (is_none (first_of (value_refusals r fact text))) parts.0).0, parts.1)
kept_takes r Override fact text v e = guarded (takes Override (tree_of r) fact) (value_spelled (tree_of r) fact text) v e

pub taken_takes : (d : Tree) → IsGiving d (taken_value d)
taken_takes d side fact text v e = guarded (takes side d fact) (value_spelled d fact text) v e

no_fact : (side : Side) (d : Tree) → takes side d 0 ≡ true → ⊥
no_fact Answer d e = cc
no_fact Override d e = cc

-- its fact is there
pub given_named : (d : Tree) (gives : Giving) → IsGiving d gives → (side : Side) (path : SlotPath) (text : List ℕ) (v : Value) → gives side (fact_of d path) text ≡ Some v → named_fact d path ≡ Some (fact_of d path)
given_named d gives giving side path text v e = at (named_fact d path) refl (giving side (fact_of d path) text v e).0
  where
    at : (o : Option ℕ) → named_fact d path ≡ o → takes side d (unwrap_or o 0) ≡ true → o ≡ Some (unwrap_or o 0)
    at None h may = absurd (no_fact side d may)
    at (Some n) h may = refl

-- one path at most names a slot whose fact is there
same_fact_path : (d : Tree) (p q : FactPath) (n : ℕ) → HasPath d.facts p n → HasPath d.facts q n → p ≡ q
same_fact_path d p q n has other =
    let one : has.fact ≡ other.fact = same_Some has.fact other.fact (sym has.is_there ∙ other.is_there) in
    same_Some p q (sym has.path_is ∙ ap (λ (f : Fact). f.path) one ∙ other.path_is)

pub one_path_of : (d : Tree) (p q : SlotPath) (n m : ℕ) → named_fact d p ≡ Some n → named_fact d q ≡ Some m → slot n (member_of p) ≡ slot m (member_of q) → p ≡ q
one_path_of d p q n m e f same = at p q (same_fact_path d (path_of p) (path_of q) n (fact_found d p n e) (subst (HasPath d.facts (path_of q)) (sym facts) (fact_found d q m f))) members
  where
    facts : n ≡ m
    facts = ap (λ (s : Slot). s.fact) same

    members : member_of p ≡ member_of q
    members = ap (λ (s : Slot). s.member) same

    at : (p q : SlotPath) → path_of p ≡ path_of q → member_of p ≡ member_of q → p ≡ q
    at (Global a) (Global b) e h = cc
    at (Global a) (Member c k n) e h = absurd cc
    at (Member b j m) (Global a) e h = absurd cc
    at (Member b j m) (Member c k n) e h = cc

-- ---- where a slot stands

pub placed_by : (d : Tree) (a b : Answered) (path : SlotPath) → a.lists ≡ b.lists → IsPlaced d a path → IsPlaced d b path
placed_by d a b (Global n) same placed = λ f e. refl
placed_by d a b (Member c k n) same placed = λ f e.
    ap (λ (xs : Numbered (List ℕ)). not (list_any (nat_eq k) (unwrap_or (map.get xs (unwrap_or (find_global d c) 0)) []))) (sym same) ∙ placed f e

line_placed : (d : Tree) (a b : Answered) → a.lists ≡ b.lists → (line : CarriedLine) → IsLinePlaced d a line → IsLinePlaced d b line
line_placed d a b same (collection name ms) placed = tt
line_placed d a b same (entry side path text) placed = placed_by d a b path same placed

not_lacking : (b : Bool) → not b ≡ false → b ≡ true
not_lacking true e = refl
not_lacking false e = absurd cc

pub placed_stands : (d : Tree) (a : Answered) (path : SlotPath) (n : ℕ) → named_fact d path ≡ Some n → IsPlaced d a path → Stands a (member_of path)
placed_stands d a (Global g) n e placed = λ other. absurd cc
placed_stands d a (Member c k m) n e placed = λ other. (unwrap_or (find_global d c) 0, not_lacking (is_member a (unwrap_or (find_global d c) 0) k) (placed n e))

-- ---- one entry

pub worth_parts : (o : Option Value) (s t : Slot) (v : Value) → ◌≡◌ {A = Option (Slot × Value)} (Some (s, v)) (option_map (λ (w : Value). (t, w)) o) → (o ≡ Some v) × (s ≡ t)
worth_parts None s t v e = absurd cc
worth_parts (Some w) s t v e =
    let pair = ap (λ (o : Option (Slot × Value)). unwrap_or o (s, v)) e in
    (sym (ap (λ (p : Slot × Value). Some p.1) pair), ap (λ (p : Slot × Value). p.0) pair)

-- what holds of the answers after some lines
pub record AreSoFar (d : Tree) (gives : Giving) (lines : List CarriedLine) (a : Answered) : Type 0 where
  pub fit : AnswersFit d a
  pub values : (side : Side) (s : Slot) (v : Value) → (value_of side a s ≡ Some v) ↔ IsGiven d gives lines side s v

-- the line gives the slot this value on the side
abbrev GivesIt : Tree → Giving → CarriedLine → Side → Slot → Value → Type 0
GivesIt d gives line side s v = (path : SlotPath) × (text : List ℕ) × (line ≡ entry side path text) × (slot_of d path ≡ s) × (gives side s.fact text ≡ Some v)

-- a line that gives what the answers have beside those before is one more
pushed : (d : Tree) (gives : Giving) (lines : List CarriedLine) (line : CarriedLine) (a b : Answered) → AreSoFar d gives lines a → AnswersFit d b
    → ((side : Side) (s : Slot) (v : Value) → value_of side b s ≡ Some v → (value_of side a s ≡ Some v) ⊎ GivesIt d gives line side s v)
    → ((side : Side) (s : Slot) (v : Value) → IsGiven d gives lines side s v ⊎ GivesIt d gives line side s v → value_of side b s ≡ Some v) → AreSoFar d gives (lines ++ line ∷ []) b
pushed d gives lines line a b so_far fit had has_it = record { fit = fit; values = λ side s v. (λ has. to side s v (had side s v has), λ given. has_it side s v (from side s v given)) }
  where
    to : (side : Side) (s : Slot) (v : Value) → (value_of side a s ≡ Some v) ⊎ GivesIt d gives line side s v → IsGiven d gives (lines ++ line ∷ []) side s v
    to side s v (inl has) = let given = (so_far.values side s v).0 has in (given.0, given.1, Contains-append_left lines (line ∷ []) (entry side given.0 given.1) given.2, given.3, given.4)
    to side s v (inr new) = (new.0, new.1, subst (Contains (lines ++ line ∷ [])) new.2 (Contains-push lines line), new.3, new.4)

    from : (side : Side) (s : Slot) (v : Value) → IsGiven d gives (lines ++ line ∷ []) side s v → IsGiven d gives lines side s v ⊎ GivesIt d gives line side s v
    from side s v given = elim (Contains-push_cases lines line (entry side given.0 given.1) given.2) [
      | inl before ↦ inl (given.0, given.1, before, given.3, given.4)
      | inr same ↦ inr (given.0, given.1, same, given.3, given.4)
    ]

-- one that gives nothing changes nothing
gives_none : (d : Tree) (gives : Giving) (lines : List CarriedLine) (line : CarriedLine) (a : Answered) → AreSoFar d gives lines a → ((side : Side) (s : Slot) (v : Value) → GivesIt d gives line side s v → ⊥) → AreSoFar d gives (lines ++ line ∷ []) a
gives_none d gives lines line a so_far none = pushed d gives lines line a a so_far so_far.fit (λ side s v has. inl has) at
  where
    at : (side : Side) (s : Slot) (v : Value) → IsGiven d gives lines side s v ⊎ GivesIt d gives line side s v → value_of side a s ≡ Some v
    at side s v (inl given) = (so_far.values side s v).1 given
    at side s v (inr new) = absurd (none side s v new)

module _ (names : List (List ℕ)) (d : Accepted) (is : IsAccepted names d) (gives : Giving) (giving : IsGiving d.tree gives) (lines : List CarriedLine) (its : Side) (path : SlotPath) (text : List ℕ) (a : Answered) (so_far : AreSoFar d.tree gives lines a)
    (placed : IsPlaced d.tree a path) (once : AllByRecursion (λ x. NamesOther x (entry its path text)) lines) where
  abbrev its_slot : Slot
  its_slot = slot_of d.tree path

  -- where it gives a slot a value
  parts_given : (side : Side) (s : Slot) (v : Value) → GivesIt d.tree gives (entry its path text) side s v → (its ≡ side) × (its_slot ≡ s) × (gives its (fact_of d.tree path) text ≡ Some v)
  parts_given side s v (p, t, same, at, worth) =
      let sides : its ≡ side = cc in
      let slots : its_slot ≡ s = (let paths : path ≡ p = cc in ap (slot_of d.tree) paths ∙ at) in
      let texts : text ≡ t = cc in
      (sides, slots, ap (λ (k : Side). gives k (fact_of d.tree path) text) sides ∙ ap (λ (u : Slot). gives side u.fact text) slots ∙ ap (gives side s.fact) texts ∙ worth)

  module _ (w : Value) (worth : gives its (fact_of d.tree path) text ≡ Some w) where
    abbrev after : Answered
    after = applied (sets its its_slot (Some w)) a

    named : named_fact d.tree path ≡ Some (fact_of d.tree path)
    named = given_named d.tree gives giving its path text w worth

    may : IsTrue (takes its d.tree (fact_of d.tree path)) × (value_spelled d.tree (fact_of d.tree path) text ≡ Some w)
    may = giving its (fact_of d.tree path) text w worth

    can_set : Stands a (member_of path)
    can_set = placed_stands d.tree a path (fact_of d.tree path) named placed

    there : IsSome (entry_at a (member_of path))
    there = entry_stands a (member_of path) so_far.fit.well can_set

    fit_after : AnswersFit d.tree after
    fit_after =
        allowed_changes_fit names d is a (sets its its_slot (Some w)) so_far.fit can_set (
          and_intro (stands d.tree a its_slot) (takes its d.tree (fact_of d.tree path)) (named_stands d.tree a path (fact_of d.tree path) so_far.fit named (placed (fact_of d.tree path) named)) may.0,
          spelled_fits d.tree a (fact_of d.tree path) text w may.1,
        )

    had : (side : Side) (s : Slot) (v : Value) → value_of side after s ≡ Some v → (value_of side a s ≡ Some v) ⊎ GivesIt d.tree gives (entry its path text) side s v
    had side s v has = at (set_has its side a its_slot s (Some w) v there has)
      where
        at : (value_of side a s ≡ Some v) ⊎ ((its ≡ side) × (its_slot ≡ s) × (Some w ≡ Some v)) → (value_of side a s ≡ Some v) ⊎ GivesIt d.tree gives (entry its path text) side s v
        at (inl old) = inl old
        at (inr new) = inr (path, text, ap (λ (k : Side). entry k path text) new.0, new.1, sym (ap (λ (k : Side). gives k (fact_of d.tree path) text) new.0 ∙ ap (λ (u : Slot). gives side u.fact text) new.1) ∙ worth ∙ new.2)

    -- no earlier line names the slot
    not_twice : (side : Side) (s : Slot) (v : Value) → IsGiven d.tree gives lines side s v → its ≡ side → its_slot ≡ s → ⊥
    not_twice side s v given sides slots =
        let kept : gives side (fact_of d.tree given.0) given.1 ≡ Some v = ap (λ (t : Slot). gives side t.fact given.1) given.3 ∙ given.4 in
        let same_path : given.0 ≡ path =
        one_path_of d.tree given.0 path (fact_of d.tree given.0) (fact_of d.tree path) (given_named d.tree gives giving side given.0 given.1 v kept) named (given.3 ∙ sym slots) in
        one_of_all (λ x. NamesOther x (entry its path text)) lines (entry side given.0 given.1) once given.2
        (ap (λ (p : SlotPath). key_text (entry side p given.1)) same_path ∙ ap (λ (k : Side). key_text (entry k path given.1)) (sym sides))

    has_it : (side : Side) (s : Slot) (v : Value) → IsGiven d.tree gives lines side s v ⊎ GivesIt d.tree gives (entry its path text) side s v → value_of side after s ≡ Some v
    has_it side s v or = set_is its side a its_slot s (Some w) there ∙ at (is_side its side) (slot_same its_slot s) refl refl or
      where
        at : (x y : Bool) → is_side its side ≡ x → slot_same its_slot s ≡ y → IsGiven d.tree gives lines side s v ⊎ GivesIt d.tree gives (entry its path text) side s v → (if x && y then Some w else value_of side a s) ≡ Some v
        at true true p q (inl given) = absurd (not_twice side s v given (same_side its side p) (slot_same-equal its_slot s q))
        at true true p q (inr new) = sym worth ∙ (parts_given side s v new).2
        at true false p q (inl given) = (so_far.values side s v).1 given
        at true false p q (inr new) = absurd (let yes : slot_same its_slot s ≡ true = ap (slot_same its_slot) (sym (parts_given side s v new).1) ∙ slot_same-itself its_slot in cc)
        at false y p q (inl given) = (so_far.values side s v).1 given
        at false y p q (inr new) = absurd (let yes : is_side its side ≡ true = ap (is_side its) (sym (parts_given side s v new).0) ∙ side_itself its in cc)

  pub one_more : AreSoFar d.tree gives (lines ++ entry its path text ∷ []) (with_value d.tree its path (gives its (fact_of d.tree path) text) a) × ((with_value d.tree its path (gives its (fact_of d.tree path) text) a).lists ≡ a.lists) × ((with_value d.tree its path (gives its (fact_of d.tree path) text) a).next ≡ a.next)
  one_more = at (gives its (fact_of d.tree path) text) refl
    where
      at : (o : Option Value) → gives its (fact_of d.tree path) text ≡ o → AreSoFar d.tree gives (lines ++ entry its path text ∷ []) (with_value d.tree its path o a) × ((with_value d.tree its path o a).lists ≡ a.lists) × ((with_value d.tree its path o a).next ≡ a.next)
      at None none = (gives_none d.tree gives lines (entry its path text) a so_far (λ side s v new. none-some v (sym none ∙ (parts_given side s v new).2)), refl, refl)
      at (Some w) worth = (pushed d.tree gives lines (entry its path text) a (applied (sets its its_slot (Some w)) a) so_far (fit_after w worth) (had w worth) (has_it w worth), refl, refl)

-- ---- all lines

module _ (names : List (List ℕ)) (d : Accepted) (is : IsAccepted names d) (gives : Giving) (giving : IsGiving d.tree gives) where
  line_too : (lines : List CarriedLine) (line : CarriedLine) (a : Answered) → AreSoFar d.tree gives lines a → IsLinePlaced d.tree a line → AllByRecursion (λ x. NamesOther x line) lines
      → AreSoFar d.tree gives (lines ++ line ∷ []) (with_line d.tree gives a line) × ((with_line d.tree gives a line).lists ≡ a.lists) × ((with_line d.tree gives a line).next ≡ a.next)
  line_too lines (collection name ms) a so_far placed once = (gives_none d.tree gives lines (collection name ms) a so_far (λ side s v new. (let list : collection name ms ≡ entry side new.0 new.1 = new.2 in cc)), refl, refl)
  line_too lines (entry side path text) a so_far placed once = one_more names d is gives giving lines side path text a so_far placed once

  all_placed : (a b : Answered) → a.lists ≡ b.lists → (xs : List CarriedLine) → AllByRecursion (IsLinePlaced d.tree a) xs → AllByRecursion (IsLinePlaced d.tree b) xs
  all_placed a b same [] all = tt
  all_placed a b same (x ∷ xs) all = (line_placed d.tree a b same x all.0, all_placed a b same xs all.1)

  pub all_entered : (xs lines : List CarriedLine) (a : Answered) → AreSoFar d.tree gives lines a → AllByRecursion (IsLinePlaced d.tree a) xs → Pairs NamesOther (lines ++ xs)
      → AreSoFar d.tree gives (lines ++ xs) (entered d.tree gives a xs) × ((entered d.tree gives a xs).lists ≡ a.lists) × ((entered d.tree gives a xs).next ≡ a.next)
  all_entered [] lines a so_far placed once = (subst (λ (ls : List CarriedLine). AreSoFar d.tree gives ls a) (sym (append-nil lines)) so_far, refl, refl)
  all_entered (x ∷ xs) lines a so_far placed once =
      let one = line_too lines x a so_far placed.0 (pairs_before NamesOther lines x xs once) in
      let new = with_line d.tree gives a x in
      let whole = append_assoc lines (x ∷ []) xs in
      let rest = all_entered xs (lines ++ x ∷ []) new one.0 (all_placed a new (sym one.1) xs placed.1) (subst (Pairs NamesOther) (sym whole) once) in
      (subst (λ (ls : List CarriedLine). AreSoFar d.tree gives ls (entered d.tree gives new xs)) whole rest.0, rest.1 ∙ one.1, rest.2 ∙ one.2)

-- ---- what is set

pub noted_on : (b : Bool) (n : ℕ) (ns rest : List ℕ) → noted b n ns ++ rest ≡ ns ++ (if b then rest else n ∷ rest)
noted_on false n ns rest = append_assoc ns (n ∷ []) rest
noted_on true n ns rest = refl

module _ (d : Tree) (gives : Giving) (giving : IsGiving d gives) (a : Answered) (e : EntryLine) (s : Slot) (v : Value)
    (same : ◌≡◌ {A = Option (Slot × Value)} (Some (s, v)) (option_map (λ (w : Value). (slot_of d e.path, w)) (gives e.side (fact_of d e.path) (string_bytes e.text)))) where
  parts : (gives e.side (fact_of d e.path) (string_bytes e.text) ≡ Some v) × (s ≡ slot_of d e.path)
  parts = worth_parts (gives e.side (fact_of d e.path) (string_bytes e.text)) s (slot_of d e.path) v same

  pub stands_there : IsPlaced d a e.path → Stands a s.member
  stands_there placed =
      subst (λ (t : Slot). Stands a t.member) (sym parts.1)
      (placed_stands d a e.path (fact_of d e.path) (given_named d gives giving e.side e.path (string_bytes e.text) v parts.0) placed)

  pub entry_set : {T E : Type 0} (result : Result T E) (new : Answered) → OnOk result (new ≡ applied (sets e.side s (Some v)) a) → OnOk result (new ≡ with_value d e.side e.path (gives e.side (fact_of d e.path) (string_bytes e.text)) a)
  entry_set (Ok x) new set = set ∙ ap (λ (t : Slot). applied (sets e.side t (Some v)) a) parts.1 ∙ ap (λ (o : Option Value). with_value d e.side e.path o a) (sym parts.0)
  entry_set (Err fault) new set = tt

-- ---- the slot that is found

pub slot_named : (r : Rules) (a : Answered) (path : SlotPath) (s : Slot) → Ok s ≡ slot_found r a path → (named_fact (tree_of r) path ≡ Some s.fact) × (s ≡ slot_of (tree_of r) path)
slot_named r a path s e = at (named_fact (tree_of r) path) refl (lacks_member (tree_of r) a path) e
  where
    at : (o : Option ℕ) → named_fact (tree_of r) path ≡ o → (b : Bool) → ◌≡◌ {A = Result Slot Refusal} (Ok s) (decided (first_of (when (is_none o) UnknownFact ∷ when b NoMember ∷ [])) (slot (unwrap_or o 0) (member_of path))) → (o ≡ Some s.fact) × (s ≡ slot (unwrap_or o 0) (member_of path))
    at None h b f = absurd cc
    at (Some n) h true f = absurd cc
    at (Some n) h false f = let same : s ≡ slot n (member_of path) = cc in (ap (λ (t : Slot). Some t.fact) (sym same), same)

-- what its text gives it
pub worth_found : (value : ℕ → List ℕ → Option Value) (s t : Slot) (text bytes : List ℕ) (o : Option Value) (worth : Option (Slot × Value)) → s ≡ t → text ≡ bytes → o ≡ value s.fact text
    → worth ≡ option_map (λ (v : Value). (s, v)) o → worth ≡ option_map (λ (v : Value). (t, v)) (value t.fact bytes)
worth_found value s t text bytes o worth slots texts is e =
    e
    ∙ ap (λ (p : Option Value). option_map (λ (v : Value). (s, v)) p) (is ∙ ap (value s.fact) texts)
    ∙ ap (λ (u : Slot). option_map (λ (v : Value). (u, v)) (value u.fact bytes)) slots

-- ---- the lines that are left

with_lists : (d : Tree) (gives : Giving) (a : Answered) (line : CarriedLine) → (with_line d gives a line).lists ≡ a.lists
with_lists d gives a (collection name ms) = refl
with_lists d gives a (entry side path text) = at (gives side (fact_of d path) text)
  where
    at : (o : Option Value) → (with_value d side path o a).lists ≡ a.lists
    at None = refl
    at (Some v) = refl

module _ (items : List TextLine) (i : ℕ) (item : TextLine) (low : i < length items) (is : item ≡ get_or items i item) where
  split : map line_of (drop i items) ≡ line_of item ∷ map line_of (drop (i + 1) items)
  split = ap (map line_of) (drop_more items i item low ∙ ap (λ (x : TextLine). x ∷ drop (i + 1) items) (sym is))

  module _ (d : Tree) (gives : Giving) (old new : Answered) (e : new ≡ with_line d gives old (line_of item)) where
    pub entered_on : entered d gives new (map line_of (drop (i + 1) items)) ≡ entered d gives old (map line_of (drop i items))
    entered_on = ap (λ (a : Answered). entered d gives a (map line_of (drop (i + 1) items))) e ∙ sym (ap (entered d gives old) split)

    pub lists_on : new.lists ≡ old.lists
    lists_on = ap (λ (a : Answered). a.lists) e ∙ with_lists d gives old (line_of item)

  -- it is placed as all are
  pub item_placed : (d : Tree) (a b : Answered) → ArePlaced d a (map line_of items) → b.lists ≡ a.lists → IsLinePlaced d b (line_of item)
  item_placed d a b placed lists = line_placed d a b (sym lists) (line_of item) (one_of_all (IsLinePlaced d a) (map line_of items) (line_of item) (recursion_from_All (IsLinePlaced d a) (map line_of items) placed) (mapped_there line_of items item there))
    where
      there : Contains items item
      there = subst (Contains items) (sym is) (All-get_or (Contains items) items i item low (All-contains_itself items))

  pub numbers_on : (r : Rules) (n m : ℕ) (old new : List ℕ) → new ≡ noted (keeps r (line_of item)) n old → m ≡ suc n → new ++ numbers_failing (keeps r) m (map line_of (drop (i + 1) items)) ≡ old ++ numbers_failing (keeps r) n (map line_of (drop i items))
  numbers_on r n m old new e next =
      ap (λ (ns : List ℕ). ns ++ numbers_failing (keeps r) m (map line_of (drop (i + 1) items))) e
      ∙ ap (λ (k : ℕ). noted (keeps r (line_of item)) n old ++ numbers_failing (keeps r) k (map line_of (drop (i + 1) items))) next
      ∙ noted_on (keeps r (line_of item)) n old (numbers_failing (keeps r) (suc n) (map line_of (drop (i + 1) items)))
      ∙ sym (ap (λ (ls : List CarriedLine). old ++ numbers_failing (keeps r) n ls) split)

-- ==== the answers of the kept lines of a carried text

-- ---- the list of a member

pub any_listed : (name : List ℕ) (k : ℕ) (lines : List CarriedLine) → list_any (lists_member name k) lines ≡ true → (ms : List ℕ) × Contains lines (collection name ms) × IsIn k ms
any_listed name k [] e = absurd cc
any_listed name k (x ∷ lines) e = at x refl (lists_member name k x) refl e (any_listed name k lines)
  where
    here : (y : CarriedLine) → lists_member name k y ≡ true → (ms : List ℕ) × (y ≡ collection name ms) × IsIn k ms
    here (collection other ms) h =
        let parts = both (bytes_eq other name) (list_any (nat_eq k) ms) h in
        (ms, ap (λ (n : List ℕ). collection n ms) (same_bytes other name parts.0), parts.1)
    here (entry side path text) h = absurd cc

    at : (y : CarriedLine) → x ≡ y → (b : Bool) → lists_member name k x ≡ b → (b || list_any (lists_member name k) lines) ≡ true
        → (list_any (lists_member name k) lines ≡ true → (ms : List ℕ) × Contains lines (collection name ms) × IsIn k ms) → (ms : List ℕ) × Contains (x ∷ lines) (collection name ms) × IsIn k ms
    at y same true h either rest = let found = here x h in (found.0, subst (λ (l : CarriedLine). Contains (x ∷ lines) l) found.1 (at_first x lines), found.2)
    at y same false h either rest = let found = rest either in (found.0, later_too x lines (collection name found.0) found.1, found.2)

written_is : (o : Option Fact) → is_written_list o ≡ opens_of o
written_is None = refl
written_is (Some f) = refl

-- a member stands where it is in a list that is opened with what its line says
pub placed_where : (names : List (List ℕ)) (d : Accepted) → IsAccepted names d → (a : Answered) (lines : List CarriedLine) (c : List ℕ) (k : ℕ) (n : List ℕ)
    → ((q : ℕ) (ms : List ℕ) → Contains lines (collection c ms) → kept_collection d.tree c ≡ Some q → map.get a.lists q ≡ Some ms)
    → list_any (lists_member c k) lines ≡ true → IsPlaced d.tree a (Member c k n)
placed_where names d is a lines c k n opens listed fact named =
    let home_is = home_is_collection names d fact c n is ((find_path-first d.tree.facts (facts_by.Member c n) fact).0 named).here in
    let global : find_global d.tree c ≡ Some (home d.tree fact) = (find_path-first d.tree.facts (facts_by.Global c) (home d.tree fact)).1 home_is.0 in
    let list : IsTrue (is_list d.tree (home d.tree fact)) = sym (written_is (fact_at d.tree.facts (home d.tree fact))) ∙ home_is.1 in
    let there = any_listed c k lines listed in
    let found = opens (home d.tree fact) there.0 there.1 (named_kept d.tree c (home d.tree fact) list global) in
    ap (λ (o : Option ℕ). not (list_any (nat_eq k) (unwrap_or (map.get a.lists (unwrap_or o 0)) []))) global
    ∙ ap (λ (o : Option (List ℕ)). not (list_any (nat_eq k) (unwrap_or o []))) found
    ∙ ap not there.2

whole_option : (o : Option (List ℕ)) → and_then (λ (ms : List ℕ). Some ms) o ≡ o
whole_option None = refl
whole_option (Some ms) = refl

given_is : (lists : List (ℕ × List ℕ)) (q : ℕ) → map.get (map_of (λ (ms : List ℕ). Some ms) lists) q ≡ lookup (nat_eq q) lists
given_is lists q = get_map_of (λ (ms : List ℕ). Some ms) lists q ∙ whole_option (lookup (nat_eq q) lists)

module _ (names : List (List ℕ)) (d : Accepted) (is : IsAccepted names d) (gives : Giving) (giving : IsGiving d.tree gives) (next : ℕ) (lines : List CarriedLine) (text : IsCarried (record { next = next; lines = lines }))
    (a : Answered) (of : IsOfLists (opened d.tree lines) next a) (well : WellFormed a) (from_one : FromOne a) where
  list_is : (q : ℕ) → map.get a.lists q ≡ lookup (nat_eq q) (opened d.tree lines)
  list_is q = ap (λ (xs : Numbered (List ℕ)). map.get xs q) of.lists_are ∙ given_is (opened d.tree lines) q

  -- ---- where entries stand

  line_placed_here : (line : CarriedLine) → IsTrue (has_its_member lines line) → IsLinePlaced d.tree a line
  line_placed_here (collection name ms) has = tt
  line_placed_here (entry side (Global n) t) has = λ f e. refl
  line_placed_here (entry side (Member c k n) t) has = placed_where names d is a lines c k n (λ q ms h kept. list_is q ∙ list_opened d.tree next lines text c ms q h kept) has

  each_placed : AllByRecursion (IsLinePlaced d.tree a) lines
  each_placed = all_of (IsLinePlaced d.tree a) lines (λ line there. line_placed_here line (one_of_all (λ l. IsTrue (has_its_member lines l)) lines line text.members there))

  pub entries_placed : ArePlaced d.tree a lines
  entries_placed = All-from_recursion (IsLinePlaced d.tree a) lines each_placed

  -- ---- all lines

  none_yet : AreSoFar d.tree gives [] a
  none_yet = record {
    fit = given_fit d.tree (opened d.tree lines) next a well from_one of (opened_lists d.tree next lines text);
    values = λ side s v. (
      λ has. absurd (none-some v (sym (given_value (opened d.tree lines) next a of side s) ∙ has)),
      λ given. absurd (none_there (entry side given.0 given.1) given.2),
    );
  }

  pub whole : AreSoFar d.tree gives lines (entered d.tree gives a lines) × ((entered d.tree gives a lines).lists ≡ a.lists) × ((entered d.tree gives a lines).next ≡ a.next)
  whole = all_entered names d is gives giving lines [] a none_yet each_placed text.once

  pub opened_by_lines : (q : ℕ) (ms : List ℕ) → (map.get (entered d.tree gives a lines).lists q ≡ Some ms) ↔ ((name : List ℕ) × Contains lines (collection name ms) × (kept_collection d.tree name ≡ Some q))
  opened_by_lines q ms = (
    λ h. opened_list d.tree next lines text q ms (sym (list_is q) ∙ ap (λ (xs : Numbered (List ℕ)). map.get xs q) (sym whole.1) ∙ h),
    λ given. ap (λ (xs : Numbered (List ℕ)). map.get xs q) whole.1 ∙ list_is q ∙ list_opened d.tree next lines text given.0 ms q given.1 given.2,
  )

pub is_carried : (names : List (List ℕ)) (r : Rules) → IsAccepted names r.accepted → (c : CarriedText) → IsCarried c → (a : Answered) → IsOfLists (opened (tree_of r) c.lines) c.next a → WellFormed a → FromOne a
    → (b : Answered) (dropped : List ℕ) → b ≡ entered (tree_of r) (kept_value r) a c.lines → dropped ≡ dropped_numbers r c.lines → IsCarryOf r c b dropped
is_carried names r is c text a of well from_one b dropped same numbers =
    let all = whole names r.accepted is (kept_value r) (kept_takes r) c.next c.lines text a of well from_one in
    subst (λ (x : Answered). IsCarryOf r c x dropped) (sym same) (record {
      kept = record { number = all.2 ∙ of.number; lists = opened_by_lines names r.accepted is (kept_value r) (kept_takes r) c.next c.lines text a of well from_one; values = all.0.values };
      fit = all.0.fit;
      others = numbers;
    })

-- ---- how many lines

joined_long : (ls : List (List ℕ)) → length ls ≤ length (joined ls)
joined_long [] = omega arith
joined_long (l ∷ ls) = omega (arith, joined_long ls, length-append l (10 ∷ joined ls))

pub few_lines : (r : CarriedRead) (bytes : List ℕ) → bytes ≡ carried (text_of r) → length r.lines.items + 3 ≤ length bytes
few_lines r bytes e =
    let items = length-map r.lines.items line_of in
    let lines = length-map (map line_of r.lines.items) line_text in
    let ended = length-append (map line_text (map line_of r.lines.items)) (end_line ∷ []) in
    omega (arith, joined_long (carried_lines (text_of r)), ap length e, items, lines, ended)

-- ---- what carrying answers

pub carry_result : (r : Rules) (read : CarriedRead) (bytes : List ℕ) → IsCarried (text_of read) → bytes ≡ carried (text_of read) → (result : Result Carried LoadFault) → IfOk result (λ (c : Carried). IsCarryOf r (text_of read) (answered c.answers) c.dropped.items)
    → IfOk result (λ (c : Carried). IsCarry r bytes (answered c.answers) c.dropped.items)
carry_result r read bytes text e (Ok c) carried = (text_of read, text, e, carried)
carry_result r read bytes text e (Err fault) carried = tt

pub carry_refused : (bytes : List ℕ) (result : Result Carried LoadFault) → IfErr result (λ fault. fault ≡ NoMemory) → IfErr result (RefusesCarried bytes)
carry_refused bytes (Ok c) memory = tt
carry_refused bytes (Err fault) memory = subst (RefusesCarried bytes) (sym memory) tt
