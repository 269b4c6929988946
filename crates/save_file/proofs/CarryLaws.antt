-- Each line of a carried text is kept or listed, and carrying gives one result.
use Rattle.save_file.proofs.Common.{Answered, AreOfKept, Bool, CarriedLine, CarriedText, CarryingGivesOne, Contains, EachLineIsKeptOrListed, Global, IsCarryOf, IsKept, IsTrue, List, None, Option, Rules, Some, [], ap, arith, collection, cond, entry, equal_number, fact_of, false, if◌then◌else◌, is_list, is_some, keeps, kept_value, list_any, map, nat_eq, nat_tests, not, numbers_failing, refl, same, same_Some, slice_get, slot_of, something, subst, suc, sym, tree_of, true, value_of, zero, ℕ, ◌+◌, ◌<◌, ◌||◌, ◌∙◌, ◌∷◌, ◌≡◌}
use Rattle.saved_text.proofs.Lines.{at_first, later_too}
use Rattle.save_file.proofs.SlotsRise.{same_answers}
use Rattle.saved_text.proofs.CarriedTexts.{one_text}
use Rattle.std.specs.FinMap as map

-- ---- numbers

not_before : (test : CarriedLine → Bool) (k n : ℕ) (xs : List CarriedLine) → k < n → list_any (nat_eq k) (numbers_failing test n xs) ≡ false
not_before test k n [] low = refl
not_before test k n (x ∷ xs) low = at (test x) (not_before test k (suc n) xs (omega (arith, low)))
  where
    other : nat_eq k n ≡ false
    other = grind (arith, nat_tests)

    at : (b : Bool) → list_any (nat_eq k) (numbers_failing test (suc n) xs) ≡ false → list_any (nat_eq k) (if b then numbers_failing test (suc n) xs else n ∷ numbers_failing test (suc n) xs) ≡ false
    at true h = h
    at false h = ap (λ (b : Bool). b || list_any (nat_eq k) (numbers_failing test (suc n) xs)) other ∙ h

listed_where : (test : CarriedLine → Bool) (n place k : ℕ) (xs : List CarriedLine) (x : CarriedLine) → k ≡ place + n → slice_get xs place ≡ Some x → list_any (nat_eq k) (numbers_failing test n xs) ≡ not (test x)
listed_where test n place k [] x e found = absurd cc
listed_where test n zero k (y ∷ xs) x e found = at (test y) refl
  where
    number : k ≡ n
    number = omega (arith, e)

    same_line : y ≡ x
    same_line = same_Some y x found

    at : (b : Bool) → test y ≡ b → list_any (nat_eq k) (if b then numbers_failing test (suc n) xs else n ∷ numbers_failing test (suc n) xs) ≡ not (test x)
    at true h = not_before test k (suc n) xs (omega (arith, number)) ∙ ap not (sym h ∙ ap test same_line)
    at false h = ap (λ (b : Bool). b || list_any (nat_eq k) (numbers_failing test (suc n) xs)) (ap (nat_eq k) (sym number) ∙ equal_number k) ∙ ap not (sym h ∙ ap test same_line)
listed_where test n (suc place) k (y ∷ xs) x e found = at (test y) (listed_where test (suc n) place k xs x (omega (arith, e)) found)
  where
    other : nat_eq k n ≡ false
    other = let up : n < k = omega (arith, e) in grind (arith, nat_tests)

    at : (b : Bool) → list_any (nat_eq k) (numbers_failing test (suc n) xs) ≡ not (test x) → list_any (nat_eq k) (if b then numbers_failing test (suc n) xs else n ∷ numbers_failing test (suc n) xs) ≡ not (test x)
    at true h = h
    at false h = ap (λ (b : Bool). b || list_any (nat_eq k) (numbers_failing test (suc n) xs)) other ∙ h

pub there_at : (xs : List CarriedLine) (place : ℕ) (x : CarriedLine) → slice_get xs place ≡ Some x → Contains xs x
there_at [] place x e = absurd cc
there_at (y ∷ xs) zero x e = subst (λ (l : CarriedLine). Contains (y ∷ xs) l) (same_Some y x e) (at_first y xs)
there_at (y ∷ xs) (suc place) x e = later_too y xs x (there_at xs place x e)

-- ---- what is kept

kept_there : (r : Rules) (c : CarriedText) (a : Answered) → AreOfKept r c a → (line : CarriedLine) → Contains c.lines line → IsTrue (keeps r line) → IsKept r a line
kept_there r c a of (collection name members) h kept = (of.lists (fact_of (tree_of r) (Global name)) members).1 (name, h, collection_is (is_list (tree_of r) (fact_of (tree_of r) (Global name))) (fact_of (tree_of r) (Global name)) kept)
  where
    collection_is : (b : Bool) (n : ℕ) → is_some (cond b (Some n) None) ≡ true → cond b (Some n) None ≡ Some n
    collection_is true n e = refl
    collection_is false n e = absurd cc
kept_there r c a of (entry side path text) h kept =
    let found = something (kept_value r side (fact_of (tree_of r) path) text) kept in
    (of.values side (slot_of (tree_of r) path) found.0).1 (path, text, h, refl, found.1) ∙ sym found.1

pub kept_or_listed : EachLineIsKeptOrListed
kept_or_listed r c a dropped of place line found = (
  ap (list_any (nat_eq (place + 3))) of.others ∙ listed_where (keeps r) 3 place (place + 3) c.lines line refl found,
  λ kept. kept_there r c a of.kept line (there_at c.lines place line found) kept,
)

-- ---- one result

pub same_options : {X : Type 0} (o p : Option X) → ((x : X) → o ≡ Some x → p ≡ Some x) → ((x : X) → p ≡ Some x → o ≡ Some x) → o ≡ p
same_options None None to from = refl
same_options None (Some x) to from = from x refl
same_options (Some x) p to from = sym (to x refl)

pub of_one : (r : Rules) (c : CarriedText) (a b : Answered) (dropped others : List ℕ) → IsCarryOf r c a dropped → IsCarryOf r c b others → (a ≡ b) × (dropped ≡ others)
of_one r c a b dropped others one two = (
  same_answers a b one.fit.well two.fit.well one.fit.from_one two.fit.from_one
      (same a.lists b.lists (λ q. same_options (map.get a.lists q) (map.get b.lists q) (λ ms h. (two.kept.lists q ms).1 ((one.kept.lists q ms).0 h)) (λ ms h. (one.kept.lists q ms).1 ((two.kept.lists q ms).0 h))))
      (λ side s. same_options (value_of side a s) (value_of side b s) (λ v h. (two.kept.values side s v).1 ((one.kept.values side s v).0 h)) (λ v h. (one.kept.values side s v).1 ((two.kept.values side s v).0 h)))
      (one.kept.number ∙ sym two.kept.number),
  one.others ∙ sym two.others,
)

pub one_carry : CarryingGivesOne
one_carry r bytes a b dropped others one two =
    of_one r two.0 a b dropped others (subst (λ (c : CarriedText). IsCarryOf r c a dropped) (one_text one.0 two.0 one.1 two.1 (sym one.2 ∙ two.2)) one.3) two.3
