-- Members: how they are read, and tests of them.
use Rattle.saved_text.proofs.Common.{AllByRecursion, BadLine, Bool, Err, IsIn, IsMemberNumber, IsNextNumber, IsNotIn, Lacks, LineFault, List, MatchOption, NoMemory, None, Ok, Option, ReadsMember, ReadsMembers, Some, SpellsMemberNumber, [], and_intro, ap, append-nil, append_assoc, are_below, arith, both, cases_lt, codes, cut, cut_some, decimal, equal_number, false, front_lacks, inl, inr, length, length-append, list_any, nat_eq, nat_lt, nat_tests, neither_or, or_left, or_neither, or_right, own, printed_item, printed_rest, refl, same_number, subst, sym, true, uncut_lacks, ℕ, ◌++◌, ◌<◌, ◌||◌, ◌∙◌, ◌∷◌, ◌≡◌, ◌≢◌, ◌≤◌}
use Rattle.std.proofs.lemmas.Fmt.{decimal-digits_value, digits_value-decimal}
use Rattle.std.specs.Str.Parse.{digits_value}
use Rattle.saved_text.proofs.Lines.{cons_not_nil, cons_parts}
use Rattle.saved_text.proofs.SlotTexts.{item_lacks, same_parts, tail_of}

-- ==== members that are read word by word, and the number of the next

-- ---- members

pub rest-push : (ms : List ℕ) (m : ℕ) → printed_rest (ms ++ m ∷ []) ≡ printed_rest ms ++ 32 ∷ printed_item m
rest-push [] m = ap (λ (text : List ℕ). 32 ∷ text) (append-nil (printed_item m))
rest-push (n ∷ ms) m =
    ap (λ (text : List ℕ). 32 ∷ (printed_item n ++ text)) (rest-push ms m)
    ∙ ap (λ (text : List ℕ). 32 ∷ text) (sym (append_assoc (printed_item n) (printed_rest ms) (32 ∷ printed_item m)))

push-all : (ms : List ℕ) (m : ℕ) → AllByRecursion IsMemberNumber ms → IsMemberNumber m → AllByRecursion IsMemberNumber (ms ++ m ∷ [])
push-all [] m all is = (is, tt)
push-all (n ∷ ms) m all is = (all.0, push-all ms m all.1 is)

-- the members so far, and what is left of the text behind a blank
pub record AreSoFar (tail : List ℕ) (found : List ℕ) (rest : List ℕ) : Type 0 where
  pub text : printed_rest found ++ 32 ∷ rest ≡ tail
  pub numbers : AllByRecursion IsMemberNumber found
  pub others : (ms : List ℕ) → AllByRecursion IsMemberNumber ms → printed_rest ms ≡ tail → (ns : List ℕ) × AllByRecursion IsMemberNumber ns × (printed_rest ns ≡ 32 ∷ rest)

pub none_so_far : (text : List ℕ) → AreSoFar (32 ∷ text) [] text
none_so_far text = record { text = refl; numbers = tt; others = λ ms all e. (ms, all, e) }

-- what is left begins with a member
first_left : (rest ns : List ℕ) → AllByRecursion IsMemberNumber ns → printed_rest ns ≡ 32 ∷ rest → (n : ℕ) × (more : List ℕ) × IsMemberNumber n × AllByRecursion IsMemberNumber more × (printed_item n ++ printed_rest more ≡ rest)
first_left rest [] all e = absurd (cons_not_nil 32 rest (sym e))
first_left rest (n ∷ more) all e = (n, more, all.0, all.1, (cons_parts 32 32 (printed_item n ++ printed_rest more) rest e).1)

-- its first word is the text of that member
word_is : (rest word behind : List ℕ) → cut 32 rest ≡ Some (word, behind) → (n : ℕ) (more : List ℕ) → Lacks 32 (printed_item n) → printed_item n ++ printed_rest more ≡ rest → (printed_item n ≡ word) × (printed_rest more ≡ 32 ∷ behind)
word_is rest word behind e n more lacks text =
    same_parts (printed_item n) word (printed_rest more) (32 ∷ behind) lacks (front_lacks 32 rest word behind e) (tail_of more) (inr (behind, refl)) (text ∙ cut_some 32 rest word behind e)

last_is : (rest : List ℕ) → cut 32 rest ≡ None → (n : ℕ) (more : List ℕ) → Lacks 32 (printed_item n) → printed_item n ++ printed_rest more ≡ rest → printed_item n ≡ rest
last_is rest e n more lacks text = (same_parts (printed_item n) rest (printed_rest more) [] lacks (uncut_lacks 32 rest e) (tail_of more) (inl refl) (text ∙ sym (append-nil rest))).0

module _ (tail found rest : List ℕ) (so_far : AreSoFar tail found rest) where
  pub one_more : (word behind : List ℕ) → cut 32 rest ≡ Some (word, behind) → (m : ℕ) → IsMemberNumber m → word ≡ printed_item m → AreSoFar tail (found ++ m ∷ []) behind
  one_more word behind e m is spelled = record {
    text =
        ap (λ (t : List ℕ). t ++ 32 ∷ behind) (rest-push found m)
        ∙ append_assoc (printed_rest found) (32 ∷ printed_item m) (32 ∷ behind)
        ∙ ap (λ (t : List ℕ). printed_rest found ++ 32 ∷ (t ++ 32 ∷ behind)) (sym spelled)
        ∙ ap (λ (t : List ℕ). printed_rest found ++ 32 ∷ t) (sym (cut_some 32 rest word behind e))
        ∙ so_far.text;
    numbers = push-all found m so_far.numbers is;
    others = λ ms all whole.
        (let left = so_far.others ms all whole in
        let first = first_left rest left.0 left.1 left.2 in
        (first.1, first.3, (word_is rest word behind e first.0 first.1 (item_lacks first.0 first.2) first.4).1));
  }

  pub bad_word : (word behind : List ℕ) → cut 32 rest ≡ Some (word, behind) → ((m : ℕ) → IsMemberNumber m → word ≢ printed_item m) → (ms : List ℕ) → AllByRecursion IsMemberNumber ms → printed_rest ms ≢ tail
  bad_word word behind e none ms all whole =
      let left = so_far.others ms all whole in
      let first = first_left rest left.0 left.1 left.2 in
      none first.0 first.2 (sym (word_is rest word behind e first.0 first.1 (item_lacks first.0 first.2) first.4).0)

  pub bad_last : cut 32 rest ≡ None → ((m : ℕ) → IsMemberNumber m → rest ≢ printed_item m) → (ms : List ℕ) → AllByRecursion IsMemberNumber ms → printed_rest ms ≢ tail
  bad_last e none ms all whole =
      let left = so_far.others ms all whole in
      let first = first_left rest left.0 left.1 left.2 in
      none first.0 first.2 (sym (last_is rest e first.0 first.1 (item_lacks first.0 first.2) first.4))

  pub last_one : (m : ℕ) → IsMemberNumber m → rest ≡ printed_item m → (printed_rest (found ++ m ∷ []) ≡ tail) × AllByRecursion IsMemberNumber (found ++ m ∷ [])
  last_one m is spelled = (rest-push found m ∙ ap (λ (t : List ℕ). printed_rest found ++ 32 ∷ t) (sym spelled) ∙ so_far.text, push-all found m so_far.numbers is)

-- ---- words

-- where a word isn't read, no members have the text
pub not_read : (tail found rest word behind new : List ℕ) → AreSoFar tail found rest → cut 32 rest ≡ Some (word, behind) → (fault : LineFault) → ReadsMember word found new (Err fault) → ReadsMembers tail (Err fault)
not_read tail found rest word behind new so_far e BadLine reads = bad_word tail found rest so_far word behind e reads
not_read tail found rest word behind new so_far e NoMemory reads = tt

pub last_not_read : (tail found rest new : List ℕ) → AreSoFar tail found rest → cut 32 rest ≡ None → (fault : LineFault) → ReadsMember rest found new (Err fault) → ReadsMembers tail (Err fault)
last_not_read tail found rest new so_far e BadLine reads = bad_last tail found rest so_far e reads
last_not_read tail found rest new so_far e NoMemory reads = tt

pub read_more : (tail found rest word behind new : List ℕ) (done : Unit {0}) → AreSoFar tail found rest → cut 32 rest ≡ Some (word, behind) → ReadsMember word found new (Ok done) → AreSoFar tail new behind
read_more tail found rest word behind new done so_far e reads = subst (λ (ms : List ℕ). AreSoFar tail ms behind) (sym reads.1) (one_more tail found rest so_far word behind e reads.0 reads.2 reads.3)

pub read_last : (tail found rest new : List ℕ) (done : Unit {0}) → AreSoFar tail found rest → ReadsMember rest found new (Ok done) → (printed_rest new ≡ tail) × AllByRecursion IsMemberNumber new
read_last tail found rest new done so_far reads = subst (λ (ms : List ℕ). (printed_rest ms ≡ tail) × AllByRecursion IsMemberNumber ms) (sym reads.1) (last_one tail found rest so_far reads.0 reads.2 reads.3)

-- less is left
pub shorter : (rest word behind : List ℕ) → cut 32 rest ≡ Some (word, behind) → length behind < length rest
shorter rest word behind e = omega (arith, ap length (cut_some 32 rest word behind e), length-append word (32 ∷ behind))

-- ---- the next number

-- its digits are those of no other number
pub decimals_one : (n k : ℕ) → n ≤ 1000001 → k ≤ 1000001 → decimal n ≡ decimal k → n ≡ k
decimals_one n k low high e = sym (digits_value-decimal own n (omega (arith, low))) ∙ ap (digits_value 10) e ∙ digits_value-decimal own k (omega (arith, high))

-- the number behind the last member's
pub last_next : decimal 1000001 ≡ codes "1000001"
last_next = decimal-digits_value own (codes "1000001") refl (omega arith) (λ e. absurd (omega (arith, e))) (omega arith)

pub no_next : (digits : List ℕ) → digits ≢ codes "1000001" → ((k : ℕ) → ¬ SpellsMemberNumber digits k) → (k : ℕ) → IsNextNumber k → digits ≢ decimal k
no_next digits other none k is e = elim (cases_lt k 1000001) [
  | inl low ↦ none k ((is.0, omega (arith, low)), e)
  | inr high ↦ other (e ∙ ap decimal (let same : k ≡ 1000001 = omega (arith, high, is.1) in same) ∙ last_next)
]

pub next_read : (digits : List ℕ) → digits ≢ codes "1000001" → (r : Option ℕ) → MatchOption r ((k : ℕ) → ¬ SpellsMemberNumber digits k) (SpellsMemberNumber digits)
    → MatchOption r ((k : ℕ) → IsNextNumber k → digits ≢ decimal k) (λ k. IsNextNumber k × (digits ≡ decimal k))
next_read digits other None none = no_next digits other none
next_read digits other (Some k) h = ((h.0.0, omega (arith, h.0.1)), h.1)

pub last_read : (digits : List ℕ) → digits ≡ codes "1000001" → IsNextNumber 1000001 × (digits ≡ decimal 1000001)
last_read digits e = ((omega arith, omega arith), e ∙ sym last_next)

-- ==== tests of members tell whether they are new

-- ---- each of them

pub each_in : (P : ℕ → Type 0) (ms : List ℕ) → ((m : ℕ) → IsIn m ms → P m) → AllByRecursion P ms
each_in P [] all = tt
each_in P (m ∷ ms) all = (
  all m (or_left (nat_eq m m) (list_any (nat_eq m) ms) (equal_number m)),
  each_in P ms (λ k i. all k (or_right (nat_eq k m) (list_any (nat_eq k) ms) i)),
)

pub in_each : (P : ℕ → Type 0) (ms : List ℕ) → AllByRecursion P ms → (m : ℕ) → IsIn m ms → P m
in_each P [] all m i = absurd cc
in_each P (k ∷ ms) all m i = at (nat_eq m k) refl i (in_each P ms all.1 m)
  where
    at : (b : Bool) → nat_eq m k ≡ b → (b || list_any (nat_eq m) ms) ≡ true → (IsIn m ms → P m) → P m
    at true e i rest = subst P (sym (same_number m k e)) all.0
    at false e i rest = rest i

-- ---- apart

pub none_same : {X : Type 0} (p : X → Bool) (xs : List X) → list_any p xs ≡ false → AllByRecursion (λ x. p x ≡ false) xs
none_same p [] out = tt
none_same p (x ∷ xs) out = let parts = or_neither (p x) (list_any p xs) out in (parts.0, none_same p xs parts.1)

pub none_there : (others ms : List ℕ) → list_any (λ m. list_any (nat_eq m) others) ms ≡ false → (m : ℕ) → IsIn m ms → IsNotIn m others
none_there others ms out = in_each (λ m. IsNotIn m others) ms (none_same (λ m. list_any (nat_eq m) others) ms out)

pub there_none : (others ms : List ℕ) → ((m : ℕ) → IsIn m ms → IsNotIn m others) → list_any (λ m. list_any (nat_eq m) others) ms ≡ false
there_none others [] all = refl
there_none others (k ∷ ms) all =
    neither_or (list_any (nat_eq k) others) (list_any (λ n. list_any (nat_eq n) others) ms)
    (all k (or_left (nat_eq k k) (list_any (nat_eq k) ms) (equal_number k)))
    (there_none others ms (λ m i. all m (or_right (nat_eq m k) (list_any (nat_eq m) ms) i)))

-- ---- below

pub below_from : (next : ℕ) (ms : List ℕ) → AllByRecursion (λ m. m < next) ms → are_below next ms ≡ true
below_from next [] all = refl
below_from next (m ∷ ms) all = and_intro (nat_lt m next) (are_below next ms) (let low : m < next = all.0 in let test : nat_lt m next ≡ true = grind (arith, nat_tests) in test) (below_from next ms all.1)

pub from_below : (next : ℕ) (ms : List ℕ) → are_below next ms ≡ true → AllByRecursion (λ m. m < next) ms
from_below next [] all = tt
from_below next (m ∷ ms) all =
    let tests_passed = both (nat_lt m next) (are_below next ms) all in
    (let test : nat_lt m next ≡ true = tests_passed.0 in let low : m < next = grind (arith, nat_tests) in low, from_below next ms tests_passed.1)
