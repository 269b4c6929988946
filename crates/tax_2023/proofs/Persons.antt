-- What is derived of all persons.
use Rattle.std.proofs.Common.{◌≡◌, ℕ, suc, ◌+◌, Bool, true, false, if◌then◌else◌, cond, IsTrue, nat_eq, pos, List, [], ◌∷◌, length, map, filter, Some, refl, sym, ap, ◌∙◌, arith}
use Rattle.std.specs.Prelude.{count_by}
use Rattle.std.specs.List.{list_all, list_any}
use Rattle.std.specs.FinMap as map_of
use Rattle.std.proofs.lemmas.List.Recursion.{is_count_by}
use Rattle.common_lemmas.proofs.Bools.{both_left, both_right, or_right}
use Rattle.common_lemmas.proofs.Numbers.{equal_number}
use Rattle.fact_values.specs.declared.value.Value.{Value}
use Rattle.fact_values.specs.declared.value.Value.TheVariants.{Boolean, Int, Members}
use Rattle.three_state.specs.Results.{truth}
use Rattle.answers.specs.Answered.{Answered}
use Rattle.tax_2023.specs.Household.{Dependent, Household}
use Rattle.tax_2023.specs.Years.{Year}
use Rattle.tax_2023.specs.Tables.{dependents, is_dependent, is_qualifying_child, members, qualifying_children}
use Rattle.tax_2023.specs.Facts as facts
use Rattle.tax_2023.proofs.Values.{person}
use Rattle.tax_2023.proofs.YearDictionary.{Rest, Worth}

-- each person is the one whom the answers give for the number
abbrev pub AreGiven : Answered → List Dependent → Type 0
AreGiven a [] = Unit {0}
AreGiven a (p ∷ ps) = (person a p.member ≡ p) × AreGiven a ps

-- ---- members of a list are among them

stays : (x : ℕ) (ms ns : List ℕ) → IsTrue (list_all (λ m. list_any (nat_eq m) ms) ns) → IsTrue (list_all (λ m. list_any (nat_eq m) (x ∷ ms)) ns)
stays x ms [] h = refl
stays x ms (n ∷ ns) h =
    rw (
      or_right (nat_eq n x) (list_any (nat_eq n) ms) (both_left (list_any (nat_eq n) ms) (list_all (λ m. list_any (nat_eq m) ms) ns) h),
      stays x ms ns (both_right (list_any (nat_eq n) ms) (list_all (λ m. list_any (nat_eq m) ms) ns) h),
    ) refl

pub all_members : (ms : List ℕ) → list_all (λ m. list_any (nat_eq m) ms) ms ≡ true
all_members [] = refl
all_members (m ∷ ms) = rw (equal_number m, stays m ms ms (all_members ms)) refl

-- ---- lists of members and lists of persons

one_kept : (b : Bool) (p : Dependent) (r : List Dependent) → (if b then p.member ∷ members r else members r) ≡ members (if b then p ∷ r else r)
one_kept true p r = refl
one_kept false p r = refl

pub kept_members : (a : Answered) (test : Dependent → Bool) (ps : List Dependent) → AreGiven a ps → filter (λ m. test (person a m)) (members ps) ≡ members (filter test ps)
kept_members a test [] o = refl
kept_members a test (p ∷ ps) o = rw (o.0, kept_members a test ps o.1) (one_kept (test p) p (filter test ps))

one_counted : (b : Bool) (p : Dependent) (r : List Dependent) → cond b (1 + length r) (length r) ≡ length (if b then p ∷ r else r)
one_counted true p r = let e : 1 + length r ≡ suc (length r) = omega arith in e
one_counted false p r = refl

-- how many values are true
abbrev count_true : List Value → ℕ
count_true [] = 0
count_true (v ∷ vs) = cond (truth v) (1 + count_true vs) (count_true vs)

true_ones : (a : Answered) (test : Dependent → Bool) (ps : List Dependent) → AreGiven a ps → count_true (map (λ m. Boolean (test (person a m))) (members ps)) ≡ length (filter test ps)
true_ones a test [] o = refl
true_ones a test (p ∷ ps) o = rw (o.0, true_ones a test ps o.1) (one_counted (test p) p (filter test ps))

pub counted : (a : Answered) (test : Dependent → Bool) (ps : List Dependent) → AreGiven a ps → count_by truth (map (λ m. Boolean (test (person a m))) (members ps)) ≡ length (filter test ps)
counted a test ps o = sym (is_count_by count_true truth refl (λ x xs. refl) (map (λ m. Boolean (test (person a m))) (members ps))) ∙ true_ones a test ps o

-- ---- the facts of all persons

-- the list of persons is open
abbrev pub IsOpen : Answered → Household → Type 0
IsOpen a h = map_of.get a.lists 26 ≡ Some (members h.persons)

pub list_stated : (y : Year) (t : Rest) (a : Answered) (h : Household) → IsOpen a h → AreGiven a h.persons → Worth y t a h 42 0 (Members (members (dependents y h))) facts.dependent_list
list_stated y t a h opened o = λ results. (rw (opened, all_members (members h.persons)) refl, ap Members (kept_members a (is_dependent y h) h.persons o))

pub count_stated : (y : Year) (t : Rest) (a : Answered) (h : Household) → IsOpen a h → AreGiven a h.persons → Worth y t a h 43 0 (Int (pos (length (dependents y h)))) facts.dependent_count
count_stated y t a h opened o = λ results. (rw (opened, all_members (members h.persons)) refl, ap (λ n. Int (pos n)) (counted a (is_dependent y h) h.persons o))

pub child_count_stated : (y : Year) (t : Rest) (a : Answered) (h : Household) → IsOpen a h → AreGiven a h.persons → Worth y t a h 44 0 (Int (pos (length (qualifying_children y h)))) facts.qualifying_child_count
child_count_stated y t a h opened o = λ results. (rw (opened, all_members (members h.persons)) refl, ap (λ n. Int (pos n)) (counted a (is_qualifying_child y h) h.persons o))
