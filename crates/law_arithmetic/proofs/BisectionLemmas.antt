-- Rows with rising keys: those that have begun are the first ones.
use Rattle.std.proofs.Common.{◌≡◌, ℕ, zero, suc, ◌+◌, ◌*◌, ◌^◌, ◌≤◌, ◌<◌, ℤ, Bool, true, false, not, cond, IsTrue, List, [], ◌∷◌, length, get_or, take, drop, Option, Some, None, add-one, refl, sym, ap, ◌∙◌, subst, arith, int_lt}
use Rattle.std.specs.List.{filter, last_or, list_all}
use Rattle.std.specs.Option.{option_map}
use Rattle.std.proofs.Math.Nat.{pow-succ'}
use Rattle.std.proofs.lemmas.Nat.{mul-le}
use Rattle.std.proofs.lemmas.Int.{ints}
use Rattle.common_lemmas.proofs.Bools.{both_left, both_right, and_intro}
use Rattle.law_arithmetic.specs.declared.table.Row.{Row}
use Rattle.law_arithmetic.specs.Bisection.{IsNarrowed}
use Rattle.law_arithmetic.specs.Tables.{are_rising, has_begun, looked_up}

after_both : (a b c : ℤ) → int_lt a b ≡ true → int_lt b c ≡ true → int_lt a c ≡ true
after_both a b c h k = grind (arith, ints)

begun_earlier : (n a b : ℤ) → int_lt a b ≡ true → IsTrue (not (int_lt n b)) → IsTrue (not (int_lt n a))
begun_earlier n a b h k = grind (arith, ints)

rising_rest : (row : Row) (rest : List Row) → IsTrue (are_rising (row ∷ rest)) → IsTrue (are_rising rest)
rising_rest row [] h = refl
rising_rest row (next ∷ rest) h = both_right (int_lt row.key next.key) (are_rising (next ∷ rest)) h

-- the first key is less than each other
first_is_least : (row : Row) (rest : List Row) (i : ℕ) (x : Row) → IsTrue (are_rising (row ∷ rest)) → i < length rest → x ≡ get_or rest i x → int_lt row.key x.key ≡ true
first_is_least row [] i x rising low e = absurd (omega (arith, low))
first_is_least row (next ∷ rest) zero x rising low e =
    subst (λ (y : Row). int_lt row.key y.key ≡ true) (sym e) (both_left (int_lt row.key next.key) (are_rising (next ∷ rest)) rising)
first_is_least row (next ∷ rest) (suc i) x rising low e =
    after_both row.key next.key x.key (both_left (int_lt row.key next.key) (are_rising (next ∷ rest)) rising)
    (first_is_least next rest i x (rising_rest row (next ∷ rest) rising) (omega (arith, low)) e)

begun_up_to : (n : ℤ) (rows : List Row) (i : ℕ) (x : Row) → IsTrue (are_rising rows) → i < length rows → x ≡ get_or rows i x → IsTrue (has_begun n x) → IsTrue (list_all (has_begun n) (take (suc i) rows))
begun_up_to n [] i x rising low e begun = absurd (omega (arith, low))
begun_up_to n (row ∷ rest) zero x rising low e begun =
    and_intro (has_begun n row) true (subst (λ (y : Row). IsTrue (has_begun n y)) e begun) refl
begun_up_to n (row ∷ rest) (suc i) x rising low e begun =
    and_intro (has_begun n row) (list_all (has_begun n) (take (suc i) rest))
    (begun_earlier n row.key x.key (first_is_least row rest i x rising (omega (arith, low)) e) begun)
    (begun_up_to n rest i x (rising_rest row rest rising) (omega (arith, low)) e begun)

-- with a row that has begun all before it have
pub begun_through : (n : ℤ) (rows : List Row) (i : ℕ) (x : Row) → IsTrue (are_rising rows) → i < length rows → x ≡ get_or rows i x → IsTrue (has_begun n x) → IsTrue (list_all (has_begun n) (take (i + 1) rows))
begun_through n rows i x rising low e begun =
    let next : suc i ≡ i + 1 = omega arith in
    subst (λ (k : ℕ). IsTrue (list_all (has_begun n) (take k rows))) next (begun_up_to n rows i x rising low e begun)

all_later : (n : ℤ) (row : Row) (rest : List Row) → IsTrue (are_rising (row ∷ rest)) → int_lt n row.key ≡ true → IsTrue (list_all (λ r. int_lt n r.key) (row ∷ rest))
all_later n row [] rising later = and_intro (int_lt n row.key) true later refl
all_later n row (next ∷ rest) rising later =
    and_intro (int_lt n row.key) (list_all (λ r. int_lt n r.key) (next ∷ rest)) later
    (all_later n next rest (rising_rest row (next ∷ rest) rising) (after_both n row.key next.key later (both_left (int_lt row.key next.key) (are_rising (next ∷ rest)) rising)))

-- with a row that hasn't begun none from it on has
pub later_from : (n : ℤ) (rows : List Row) (i : ℕ) (x : Row) → IsTrue (are_rising rows) → i < length rows → x ≡ get_or rows i x → int_lt n x.key ≡ true → IsTrue (list_all (λ r. int_lt n r.key) (drop i rows))
later_from n [] i x rising low e later = absurd (omega (arith, low))
later_from n (row ∷ rest) zero x rising low e later =
    all_later n row rest rising (subst (λ (y : Row). int_lt n y.key ≡ true) e later)
later_from n (row ∷ rest) (suc i) x rising low e later =
    later_from n rest i x (rising_rest row rest rising) (omega (arith, low)) e later

-- ---- what is left of the rows where a test parts them

none_begun : (n : ℤ) (rows : List Row) → IsTrue (list_all (λ r. int_lt n r.key) rows) → filter (has_begun n) rows ≡ []
none_begun n [] h = refl
none_begun n (row ∷ rest) h =
    let later : int_lt n row.key ≡ true = both_left (int_lt n row.key) (list_all (λ r. int_lt n r.key) rest) h in
    rw later (none_begun n rest (both_right (int_lt n row.key) (list_all (λ r. int_lt n r.key) rest) h))

parted : (n : ℤ) (rows : List Row) (first : ℕ) → IsTrue (list_all (has_begun n) (take first rows)) → IsTrue (list_all (λ r. int_lt n r.key) (drop first rows)) → filter (has_begun n) rows ≡ take first rows
parted n [] zero before behind = refl
parted n [] (suc first) before behind = refl
parted n (row ∷ rest) zero before behind = none_begun n (row ∷ rest) behind
parted n (row ∷ rest) (suc first) before behind =
    let begun : has_begun n row ≡ true = both_left (has_begun n row) (list_all (has_begun n) (take first rest)) before in
    let others = parted n rest first (both_right (has_begun n row) (list_all (has_begun n) (take first rest)) before) behind in
    kept (has_begun n row) begun others
  where
    kept : (b : Bool) → b ≡ true → filter (has_begun n) rest ≡ take first rest → cond b (row ∷ filter (has_begun n) rest) (filter (has_begun n) rest) ≡ row ∷ take first rest
    kept true e same = ap (λ rows. row ∷ rows) same
    kept false e same = absurd cc

pub parted_at : (n m : ℤ) (rows : List Row) (first part : ℕ) → m ≡ n → part ≤ 0 → IsNarrowed rows m first part → filter (has_begun n) rows ≡ take first rows
parted_at n m rows first part same none h =
    let end : first + part ≡ first = omega (arith, none) in
    let behind = subst (λ (k : ℕ). IsTrue (list_all (λ r. int_lt m r.key) (drop k rows))) end h.behind in
    subst (λ (z : ℤ). filter (has_begun z) rows ≡ take first rows) same (parted m rows first h.before behind)

last_taken : (o : Option Row) (rows : List Row) (i : ℕ) (x : Row) → i < length rows → x ≡ get_or rows i x → last_or o (take (suc i) rows) ≡ Some x
last_taken o [] i x low e = absurd (omega (arith, low))
last_taken o (row ∷ rest) zero x low e = ap Some (sym e)
last_taken o (row ∷ rest) (suc i) x low e = last_taken (Some row) rest i x (omega (arith, low)) e

-- the last of the first rows
last_of_first : (rows : List Row) (k i : ℕ) (x : Row) → k ≡ i + 1 → i < length rows → x ≡ get_or rows i x → last_or None (take k rows) ≡ Some x
last_of_first rows k i x same low e =
    let next : suc i ≡ k = omega (arith, same) in
    subst (λ (n : ℕ). last_or None (take n rows) ≡ Some x) next (last_taken None rows i x low e)

-- ---- what is looked up

-- the last row that has begun is the last of the first ones
pub looked_up_first : (rows : List Row) (n : ℤ) (k i : ℕ) (x : Row) → filter (has_begun n) rows ≡ take k rows → k ≡ i + 1 → i < length rows → x ≡ get_or rows i x → looked_up rows n ≡ Some x.value
looked_up_first rows n k i x begun same low e =
    ap (λ xs. option_map (λ (row : Row). row.value) (last_or None xs)) begun ∙ ap (λ o. option_map (λ (row : Row). row.value) o) (last_of_first rows k i x same low e)

pub looked_up_none : (rows : List Row) (n : ℤ) (k : ℕ) → filter (has_begun n) rows ≡ take k rows → k ≡ 0 → looked_up rows n ≡ None
looked_up_none rows n k begun none =
    ap (λ xs. option_map (λ (row : Row). row.value) (last_or None xs)) (begun ∙ ap (λ m. take m rows) none)

-- ---- rows of which one is left rise

pub short_rises : (rows : List Row) (k : ℕ) → length rows ≤ k + 1 → are_rising (drop k rows) ≡ true
short_rises [] zero le = refl
short_rises [] (suc k) le = refl
short_rises (row ∷ []) zero le = refl
short_rises (row ∷ next ∷ rest) zero le = absurd (omega (arith, le))
short_rises (row ∷ rest) (suc k) le = short_rises rest k (omega (arith, le))

-- ---- turns

-- what a bisection has done: in so many turns a part of the rows is left, at most half of it after each turn
pub record IsHalved (rows : List Row) (n : ℤ) (first part turns : ℕ) : Type 0 where
  pub narrowed : IsNarrowed rows n first part
  pub halved : 2 ^ turns * part ≤ length rows
  pub few : turns + part ≤ length rows
  pub bound : 2 ^ turns ≤ 2 * length rows + 1

pub halved_more : (rows : List Row) (n : ℤ) (first part turns first2 part2 : ℕ) → IsHalved rows n first part turns → 1 ≤ part → 2 * part2 ≤ part → IsNarrowed rows n first2 part2 → IsHalved rows n first2 part2 (turns + 1)
halved_more rows n first part turns first2 part2 h some half narrowed =
    let power : 2 ^ (turns + 1) ≡ 2 * 2 ^ turns = rw add-one (pow-succ' 2 turns) in
    let scaled : 2 ^ turns * (2 * part2) ≤ 2 ^ turns * part = mul-le (2 ^ turns) (2 * part2) (2 ^ turns) part (omega arith) half in
    let one : 2 ^ turns * 1 ≤ 2 ^ turns * part = mul-le (2 ^ turns) 1 (2 ^ turns) part (omega arith) some in
    record {
      narrowed = narrowed;
      halved = rw power (omega (arith, scaled, h.halved));
      few = omega (arith, h.few);
      bound = rw power (omega (arith, one, h.halved));
    }
