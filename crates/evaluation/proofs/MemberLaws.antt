-- The members of a list that pass a test are a list of members, and the member that is first among them is one of it.
use Rattle.std.proofs.Common.{◌≡◌, ℕ, suc, ◌≤◌, Bool, true, false, not, ◌&&◌, ◌==◌, nat_le, IsTrue, if◌then◌else◌, List, [], ◌∷◌, length, filter, refl, arith}
use Rattle.std.specs.List.{list_any, list_all}
use Rattle.std.proofs.lemmas.Bool.{le-leb, leb-true}
use Rattle.fact_values.specs.Members.{IsMemberList, are_distinct, is_member}
use Rattle.common_lemmas.proofs.Bools.{and_intro, both, is_not, neither_or, not_true, or_neither}

longer : (b : Bool) (m : ℕ) (xs ms : List ℕ) → length xs ≤ length ms → length (if b then m ∷ xs else xs) ≤ suc (length ms)
longer true m xs ms h = omega arith
longer false m xs ms h = omega arith

filter-length : (p : ℕ → Bool) (ms : List ℕ) → length (filter p ms) ≤ length ms
filter-length p [] = omega arith
filter-length p (m ∷ ms) = longer (p m) m (filter p ms) ms (filter-length p ms)

all_more : (q : ℕ → Bool) (b : Bool) (m : ℕ) (xs : List ℕ) → IsTrue (q m) → IsTrue (list_all q xs) → IsTrue (list_all q (if b then m ∷ xs else xs))
all_more q true m xs h k = and_intro (q m) (list_all q xs) h k
all_more q false m xs h k = k

pub filter-all : (p q : ℕ → Bool) (ms : List ℕ) → IsTrue (list_all q ms) → IsTrue (list_all q (filter p ms))
filter-all p q [] h = refl
filter-all p q (m ∷ ms) h = let hs = both (q m) (list_all q ms) h in all_more q (p m) m (filter p ms) hs.0 (filter-all p q ms hs.1)

none_more : (q : ℕ → Bool) (b : Bool) (m : ℕ) (xs : List ℕ) → q m ≡ false → list_any q xs ≡ false → list_any q (if b then m ∷ xs else xs) ≡ false
none_more q true m xs h k = neither_or (q m) (list_any q xs) h k
none_more q false m xs h k = k

filter-none : (p q : ℕ → Bool) (ms : List ℕ) → list_any q ms ≡ false → list_any q (filter p ms) ≡ false
filter-none p q [] h = refl
filter-none p q (m ∷ ms) h = let hs = or_neither (q m) (list_any q ms) h in none_more q (p m) m (filter p ms) hs.0 (filter-none p q ms hs.1)

distinct_more : (b : Bool) (m : ℕ) (xs : List ℕ) → list_any (λ other. other == m) xs ≡ false → IsTrue (are_distinct xs) → IsTrue (are_distinct (if b then m ∷ xs else xs))
distinct_more true m xs h k = and_intro (not (list_any (λ other. other == m) xs)) (are_distinct xs) (is_not (list_any (λ other. other == m) xs) h) k
distinct_more false m xs h k = k

filter-distinct : (p : ℕ → Bool) (ms : List ℕ) → IsTrue (are_distinct ms) → IsTrue (are_distinct (filter p ms))
filter-distinct p [] h = refl
filter-distinct p (m ∷ ms) h =
    let hs = both (not (list_any (λ other. other == m) ms)) (are_distinct ms) h in
    distinct_more (p m) m (filter p ms) (filter-none p (λ other. other == m) ms (not_true (list_any (λ other. other == m) ms) hs.0)) (filter-distinct p ms hs.1)

-- at most 100
pub member_list-length : (ms : List ℕ) → IsMemberList ms → length ms ≤ 100
member_list-length ms h = leb-true (length ms) 100 (both (nat_le (length ms) 100) (list_all is_member ms && are_distinct ms) h).0

pub member_list-members : (ms : List ℕ) → IsMemberList ms → IsTrue (list_all is_member ms)
member_list-members ms h = (both (list_all is_member ms) (are_distinct ms) (both (nat_le (length ms) 100) (list_all is_member ms && are_distinct ms) h).1).0

shorter : (a b : ℕ) → a ≤ b → b ≤ 100 → a ≤ 100
shorter a b h k = omega arith

pub filter-member_list : (p : ℕ → Bool) (ms : List ℕ) → IsMemberList ms → IsMemberList (filter p ms)
filter-member_list p ms h =
    let parts = both (nat_le (length ms) 100) (list_all is_member ms && are_distinct ms) h in
    let rest = both (list_all is_member ms) (are_distinct ms) parts.1 in
    and_intro (nat_le (length (filter p ms)) 100) (list_all is_member (filter p ms) && are_distinct (filter p ms))
    (le-leb (length (filter p ms)) 100 (shorter (length (filter p ms)) (length ms) (filter-length p ms) (leb-true (length ms) 100 parts.0)))
    (and_intro (list_all is_member (filter p ms)) (are_distinct (filter p ms)) (filter-all p is_member ms rest.0) (filter-distinct p ms rest.1))
