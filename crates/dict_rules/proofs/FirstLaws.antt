-- The fact that is found is the first that passes.
use Rattle.std.proofs.Common.{◌≡◌, ◌↔◌, ℕ, zero, suc, ◌+◌, ◌<◌, Bool, true, false, cond, List, [], ◌∷◌, slice_get, Option, Some, None, refl, sym, ap, ◌∙◌, arith}
use Rattle.std.proofs.lemmas.Bool.{true≢false}
use Rattle.dict_source.specs.Facts.{Fact}
use Rattle.dict_source.specs.Finding.{fact_at}
use Rattle.dict_rules.specs.FirstFact.{FactTest, Passes, IsFirstPassing, first_passing}

-- where they are counted from n, the one at i passes, and none before it
record FoundAt (test : FactTest) (n : ℕ) (facts : List Fact) (i : ℕ) : Type 0 where
  pub fact : Fact
  pub is_there : slice_get facts i ≡ Some fact
  pub passes : test (n + i) fact ≡ true
  pub before : (j : ℕ) (f : Fact) → j < i → slice_get facts j ≡ Some f → test (n + j) f ≡ false

none_at : (test : FactTest) (n : ℕ) (facts : List Fact) → first_passing test n facts ≡ None → (j : ℕ) (f : Fact) → slice_get facts j ≡ Some f → test (n + j) f ≡ false
none_at test n [] h j f at = absurd cc
none_at test n (g ∷ facts) h j f at = by (test n g) refl h j at (λ k. none_at test (suc n) facts k)
  where
    by : (b : Bool) → test n g ≡ b → cond b (Some n) (first_passing test (suc n) facts) ≡ None → (j : ℕ) → slice_get (g ∷ facts) j ≡ Some f → (first_passing test (suc n) facts ≡ None → (j : ℕ) (f : Fact) → slice_get facts j ≡ Some f → test (suc n + j) f ≡ false) → test (n + j) f ≡ false
    by true e h j at rest = absurd cc
    by false e h zero at rest = let one : g ≡ f = cc in let same : n + 0 ≡ n = omega arith in ap (λ (k : ℕ). test k f) same ∙ ap (test n) (sym one) ∙ e
    by false e h (suc j) at rest = let same : n + suc j ≡ suc n + j = omega arith in ap (λ (k : ℕ). test k f) same ∙ rest h j f at

found_at : (test : FactTest) (n : ℕ) (facts : List Fact) (k : ℕ) → first_passing test n facts ≡ Some k → (i : ℕ) × (k ≡ n + i) × FoundAt test n facts i
found_at test n [] k h = absurd cc
found_at test n (g ∷ facts) k h = by (test n g) refl h (λ e. found_at test (suc n) facts k e)
  where
    first : (j : ℕ) (f : Fact) → j < 0 → slice_get (g ∷ facts) j ≡ Some f → test (n + j) f ≡ false
    first j f low at = absurd (omega arith)

    later : test n g ≡ false → (i : ℕ) → FoundAt test (suc n) facts i → (j : ℕ) (f : Fact) → j < suc i → slice_get (g ∷ facts) j ≡ Some f → test (n + j) f ≡ false
    later e i found zero f low at = let one : g ≡ f = cc in let same : n + 0 ≡ n = omega arith in ap (λ (m : ℕ). test m f) same ∙ ap (test n) (sym one) ∙ e
    later e i found (suc j) f low at = let same : n + suc j ≡ suc n + j = omega arith in ap (λ (m : ℕ). test m f) same ∙ found.before j f (omega arith) at

    by : (b : Bool) → test n g ≡ b → cond b (Some n) (first_passing test (suc n) facts) ≡ Some k → (first_passing test (suc n) facts ≡ Some k → (i : ℕ) × (k ≡ suc n + i) × FoundAt test (suc n) facts i) → (i : ℕ) × (k ≡ n + i) × FoundAt test n (g ∷ facts) i
    by true e h rest = let one : n ≡ k = cc in let same : n + 0 ≡ n = omega arith in (0, omega (arith, one), record { fact = g; is_there = refl; passes = ap (λ (m : ℕ). test m g) same ∙ e; before = first })
    by false e h rest =
        let found = rest h in
        let same : n + suc found.0 ≡ suc n + found.0 = omega arith in
        (suc found.0, omega (arith, found.1), record { fact = found.2.fact; is_there = found.2.is_there; passes = ap (λ (m : ℕ). test m found.2.fact) same ∙ found.2.passes; before = later e found.0 found.2 })

none_passes : (test : FactTest) (facts : List Fact) → first_passing test 1 facts ≡ None → (n : ℕ) → ¬ Passes test facts n
none_passes test facts h zero has = absurd (let e : None ≡ Some has.fact = has.is_there in cc)
none_passes test facts h (suc i) has =
    let same : 1 + i ≡ suc i = omega arith in
    true≢false (sym has.passes ∙ sym (ap (λ (m : ℕ). test m has.fact) same) ∙ none_at test 1 facts h i has.fact has.is_there)

is_first : (test : FactTest) (facts : List Fact) (n i : ℕ) → n ≡ suc i → FoundAt test 1 facts i → IsFirstPassing test facts n
is_first test facts n i e found = record {
  here = record { fact = found.fact; is_there = ap (fact_at facts) e ∙ found.is_there; passes = ap (λ (m : ℕ). test m found.fact) (let k : n ≡ 1 + i = omega (arith, e) in k) ∙ found.passes };
  before = before;
}
  where
    before : (k : ℕ) → k < n → ¬ Passes test facts k
    before zero low has = absurd (let e : None ≡ Some has.fact = has.is_there in cc)
    before (suc k) low has =
        let same : 1 + k ≡ suc k = omega arith in
        true≢false (sym has.passes ∙ sym (ap (λ (m : ℕ). test m has.fact) same) ∙ found.before k has.fact (omega (arith, e, low)) has.is_there)

some_first : (test : FactTest) (facts : List Fact) (n : ℕ) → first_passing test 1 facts ≡ Some n → IsFirstPassing test facts n
some_first test facts n h =
    let found = found_at test 1 facts n h in
    is_first test facts n found.0 (let e : n ≡ suc found.0 = omega (arith, found.1) in e) found.2

first_some : (test : FactTest) (facts : List Fact) (n : ℕ) (o : Option ℕ) → first_passing test 1 facts ≡ o → IsFirstPassing test facts n → o ≡ Some n
first_some test facts n None h first = absurd (none_passes test facts h n first.here)
first_some test facts n (Some m) h first =
    let other = some_first test facts m h in
    let low : ¬ (m < n) = λ l. first.before m l other.here in
    let high : ¬ (n < m) = λ l. other.before n l first.here in
    let one : m ≡ n = omega arith in
    ap (λ (k : ℕ). Some k) one

none_none : (test : FactTest) (facts : List Fact) (o : Option ℕ) → first_passing test 1 facts ≡ o → ((n : ℕ) → ¬ Passes test facts n) → o ≡ None
none_none test facts None h none = refl
none_none test facts (Some m) h none = absurd (none m (some_first test facts m h).here)

pub first_is_least : (test : FactTest) (facts : List Fact) (n : ℕ) → (first_passing test 1 facts ≡ Some n) ↔ IsFirstPassing test facts n
first_is_least test facts n = (λ h. some_first test facts n h, λ first. first_some test facts n (first_passing test 1 facts) refl first)

pub none_is_found : (test : FactTest) (facts : List Fact) → (first_passing test 1 facts ≡ None) ↔ ((n : ℕ) → ¬ Passes test facts n)
none_is_found test facts = (λ h. none_passes test facts h, λ none. none_none test facts (first_passing test 1 facts) refl none)
