-- The members of an open collection are of its own type.
use Rattle.std.proofs.Common.{◌≡◌, inl, inr, ℕ, zero, suc, ◌<◌, ◌≤◌, Bool, false, not, ◌&&◌, ◌||◌, ◌==◌, nat_le, nat_eq, List, [], ◌∷◌, length, Option, Some, None, IsSome, unwrap_or, refl, sym, ap, subst, ◌∙◌, arith}
use Rattle.std.specs.Prelude.{IsTrue, is_none}
use Rattle.std.specs.List.{list_any, list_all}
use Rattle.std.specs.FinMap as map
use Rattle.std.proofs.lemmas.Bool.{cases_lt, eq-eqb, le-leb, ltb-false, or_left, or_right}
use Rattle.fact_paths.specs.declared.fact_path.FactPath.{FactPath}
use Rattle.fact_paths.specs.declared.fact_path.FactPath.TheVariants.{Global, Member}
use Rattle.fact_values.specs.declared.fact_type.FactType.TheVariants.{Collection}
use Rattle.fact_values.specs.declared.value.Value.TheVariants.{Members}
use Rattle.fact_values.specs.Members as values
use Rattle.dict_source.specs.Facts.{Fact, writable_list}
use Rattle.dict_source.specs.Dictionary.{Dictionary as Tree}
use Rattle.dict_source.specs.Finding.{HasPath, fact_at, find_path}
use Rattle.dict_source.specs.Targets.{list_base}
use Rattle.dict_source.proofs.FindingLaws.{find_path-first, find_path-none}
use Rattle.dict_rules.specs.BadPath.{is_bad_path, is_bad_stated, is_bad_use}
use Rattle.dict_rules.specs.DuplicatePath.{is_before, is_duplicate, is_taken}
use Rattle.node_types.specs.StatedTypes.{base_number}
use Rattle.dict_rules.specs.Uses.{fact_has_use}
use Rattle.dict_rules.specs.WrongPlace.{is_member_path}
use Rattle.evaluation.specs.Typed.{IsOfType}
use Rattle.common_lemmas.proofs.Bools.{and_intro, is_not}
use Rattle.common_lemmas.proofs.Lists.{any_number}
use Rattle.answers.specs.Answered.{Answered, list_of}
use Rattle.answers.specs.Lists.{IsIn, Once}
use Rattle.answers.specs.WellFormed.{WellFormed, FromOne}
use Rattle.answers.proofs.StandLaws.{none_some}
use Rattle.dict_meaning.specs.Fits.{domains}
use Rattle.dict_meaning.specs.Slots.{is_member}

-- ---- members of a list

-- what holds of each member of a list passes the whole list
pub all_in : (p : ℕ → Bool) (ms : List ℕ) → ((m : ℕ) → IsIn m ms → IsTrue (p m)) → IsTrue (list_all p ms)
all_in p [] h = refl
all_in p (x ∷ ms) h =
    and_intro (p x) (list_all p ms) (h x (or_left (nat_eq x x) (list_any (nat_eq x) ms) (eq-eqb x x refl)))
    (all_in p ms (λ m i. h m (or_right (nat_eq m x) (list_any (nat_eq m) ms) i)))

once_distinct : (ms : List ℕ) → Once ms → IsTrue (values.are_distinct ms)
once_distinct [] h = refl
once_distinct (x ∷ ms) h =
    and_intro (not (list_any (λ other. other == x) ms)) (values.are_distinct ms) (is_not (list_any (λ other. other == x) ms) (any_number x ms ∙ h.0)) (once_distinct ms h.1)

-- ---- members of answers

pub below_next : (a : Answered) → WellFormed a → (m : ℕ) → IsSome (map.get a.members m) → m < a.next
below_next a well m h = elim (cases_lt m a.next) [
  | inl k ↦ k
  | inr k ↦ absurd (none_some (map.get a.members m) (well.below m k) h)
]

pub from_one : (a : Answered) → FromOne a → (m : ℕ) → IsSome (map.get a.members m) → 1 ≤ m
from_one a low zero h = absurd (none_some (map.get a.members zero) low.zero h)
from_one a low (suc m) h = omega arith

below_bound : (m next : ℕ) → m < next → next ≤ 1000001 → m ≤ 1000000
below_bound m next h k = omega arith

numbered : (a : Answered) → WellFormed a → FromOne a → (c m : ℕ) → IsIn m (list_of a c) → IsTrue (values.is_member m)
numbered a well low c m i =
    let there = well.listed c m i in
    and_intro (nat_le 1 m) (nat_le m 1000000) (le-leb 1 m (from_one a low m there))
    (le-leb m 1000000 (below_bound m a.next (below_next a well m there) well.high))

members_are : (a : Answered) → WellFormed a → FromOne a → (c : ℕ) → values.IsMemberList (list_of a c)
members_are a well low c =
    let ms = list_of a c in
    and_intro (nat_le (length ms) 100) (list_all values.is_member ms && values.are_distinct ms) (le-leb (length ms) 100 (well.short c))
    (and_intro (list_all values.is_member ms) (values.are_distinct ms) (all_in values.is_member ms (numbered a well low c)) (once_distinct ms (well.distinct c)))

-- the value of an open collection is of the type of its own number
pub open_members : (d : Tree) (a : Answered) → WellFormed a → FromOne a → (c : ℕ) (ms : List ℕ) → map.get a.lists c ≡ Some ms → IsOfType (domains d a) (Members ms) (Collection c)
open_members d a well low c ms e =
    let same : list_of a c ≡ ms = ap (λ (o : Option (List ℕ)). unwrap_or o []) e in
    (subst values.IsMemberList same (members_are a well low c), all_in (is_member a c) ms (λ m i. subst (IsIn m) (sym same) i))

-- ---- the number of a collection's own fact

exactly : (n : ℕ) (o : Option ℕ) → is_before n o ≡ false → ((k : ℕ) → o ≡ Some k → k ≤ n) → (o ≡ None → ⊥) → o ≡ Some n
exactly n None h low some = absurd (some refl)
exactly n (Some k) h low some =
    let up : n ≤ k = ltb-false k n h in
    let down : k ≤ n = low k refl in
    let same : k ≡ n = omega arith in
    ap Some same

-- where no fact before it has its path, the fact is the one that is found by it
found_itself : (d : Tree) (path : FactPath) (n : ℕ) → HasPath d.facts path n → is_before n (find_path d.facts path) ≡ false → find_path d.facts path ≡ Some n
found_itself d path n has first =
    exactly n (find_path d.facts path) first
    (λ k e. elim (cases_lt n k) [
      | inl low ↦ absurd (((find_path-first d.facts path k).0 e).before n low has)
      | inr up ↦ up
    ])
    (λ e. (find_path-none d.facts path).0 e n has)

own_by : (d : Tree) (n : ℕ) (f : Fact) (o : Option FactPath) → f.path ≡ o → fact_at d.facts n ≡ Some f → (is_none o || (is_bad_stated f.stated || fact_has_use is_bad_use d n f)) ≡ false → is_taken d n o ≡ false → is_member_path o ≡ false → base_number d (list_base o writable_list) ≡ n
own_by d n f None e there bad taken member = absurd cc
own_by d n f (Some (Member c m)) e there bad taken member = absurd cc
own_by d n f (Some (Global b)) e there bad taken member =
    ap (λ (o : Option ℕ). unwrap_or o 0) (found_itself d (Global b) n (record { fact = f; is_there = there; path_is = e }) taken)

-- the base of a Writable collection's type is its own fact
pub own_number : (d : Tree) (n : ℕ) (f : Fact) → fact_at d.facts n ≡ Some f → is_bad_path d n f ≡ false → is_duplicate d n f ≡ false → is_member_path f.path ≡ false → base_number d (list_base f.path writable_list) ≡ n
own_number d n f there bad taken member = own_by d n f f.path refl there bad taken member
