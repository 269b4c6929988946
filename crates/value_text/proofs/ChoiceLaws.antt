-- The places of options.
use Rattle.std.proofs.Common.{◌≡◌, ◌≢◌, ℕ, zero, suc, ◌+◌, Bool, true, false, not, cond, ltb, List, [], ◌∷◌, length, slice_get, bytes_eq, Option, Some, None, option_map, if◌then◌else◌, refl, sym, ap, ◌∙◌, arith}
use Rattle.std.specs.List.{prefix_len}
use Rattle.std.proofs.lemmas.Bool.{and_parts, not-true, or_parts, false≢true}
use Rattle.common_lemmas.proofs.Bytes.{same_bytes, equal_bytes}
use Rattle.common_lemmas.proofs.Options.{mapped}
use Rattle.value_text.specs.Enums.{is_among, are_distinct, place_in}

placed : (b : Bool) (p : ℕ) → cond b (Some (1 + p)) None ≡ option_map (λ (n : ℕ). suc n) (cond b (Some p) None)
placed true p = ap Some (omega arith)
placed false p = refl

pub past_first : (p n : ℕ) → ltb (1 + p) (suc n) ≡ ltb p n
past_first p n = grind arith

-- a text is the first of the texts, or stands among the rest
first_or_rest : (b : Bool) (p n : ℕ) → cond (ltb (cond (not b) (1 + p) 0) (suc n)) (Some (cond (not b) (1 + p) 0)) None ≡ (if b then Some 0 else option_map (λ (k : ℕ). suc k) (cond (ltb p n) (Some p) None))
first_or_rest true p n = rw (zero_below n) refl
  where
    zero_below : (m : ℕ) → ltb 0 (suc m) ≡ true
    zero_below m = grind arith
first_or_rest false p n = rw (past_first p n) (placed (ltb p n) p)

place_step : (text first : List ℕ) (rest : List (List ℕ)) → place_in text (first ∷ rest) ≡ (if bytes_eq text first then Some 0 else option_map (λ (k : ℕ). suc k) (place_in text rest))
place_step text first rest = first_or_rest (bytes_eq text first) (prefix_len (λ t. not (bytes_eq text t)) rest) (length rest)

-- the text stands at its place
found_by : (b : Bool) (text first : List ℕ) (rest : List (List ℕ)) (place : ℕ) → bytes_eq text first ≡ b
    → ((k : ℕ) → place_in text rest ≡ Some k → slice_get rest k ≡ Some text)
    → (if b then Some 0 else option_map (λ (k : ℕ). suc k) (place_in text rest)) ≡ Some place → slice_get (first ∷ rest) place ≡ Some text
found_by true text first rest place e more at =
    let zero_is : place ≡ 0 = cc in
    rw zero_is (ap Some (sym (same_bytes text first e)))
found_by false text first rest place e more at =
    let m = mapped (λ (k : ℕ). suc k) (place_in text rest) place at in
    rw (m.2) (more m.0 m.1)

pub place_some : (text : List ℕ) (texts : List (List ℕ)) (place : ℕ) → place_in text texts ≡ Some place → slice_get texts place ≡ Some text
place_some text [] place e = absurd cc
place_some text (first ∷ rest) place e = found_by (bytes_eq text first) text first rest place refl (place_some text rest) (sym (place_step text first rest) ∙ e)

-- what is not among the texts stands nowhere
stands_among : (text : List ℕ) (texts : List (List ℕ)) (i : ℕ) → is_among text texts ≡ false → slice_get texts i ≡ Some text → ⊥
stands_among text [] i none there = absurd cc
stands_among text (first ∷ rest) zero none there =
    let parts = or_parts (bytes_eq text first) (is_among text rest) none in
    let same : first ≡ text = cc in
    false≢true (sym parts.0 ∙ ap (bytes_eq text) same ∙ equal_bytes text)
stands_among text (first ∷ rest) (suc i) none there =
    let parts = or_parts (bytes_eq text first) (is_among text rest) none in
    stands_among text rest i parts.1 there

-- a text of distinct ones has no other place
found_at : (b : Bool) (text first : List ℕ) (rest : List (List ℕ)) (place : ℕ) → bytes_eq text first ≡ b → is_among first rest ≡ false
    → ((k : ℕ) → slice_get rest k ≡ Some text → place_in text rest ≡ Some k)
    → slice_get (first ∷ rest) place ≡ Some text → (if b then Some 0 else option_map (λ (k : ℕ). suc k) (place_in text rest)) ≡ Some place
found_at b text first rest zero e apart more at =
    let same : first ≡ text = cc in
    let yes : b ≡ true = sym e ∙ ap (bytes_eq text) same ∙ equal_bytes text in
    rw yes refl
found_at true text first rest (suc k) e apart more at = absurd (stands_among first rest k apart (at ∙ ap Some (same_bytes text first e)))
found_at false text first rest (suc k) e apart more at = ap (option_map (λ (n : ℕ). suc n)) (more k at)

pub place_found : (text : List ℕ) (texts : List (List ℕ)) (place : ℕ) → are_distinct texts ≡ true → slice_get texts place ≡ Some text → place_in text texts ≡ Some place
place_found text [] place d e = absurd cc
place_found text (first ∷ rest) place d e =
    let parts = and_parts (not (is_among first rest)) (are_distinct rest) d in
    place_step text first rest ∙ found_at (bytes_eq text first) text first rest place refl (not-true (is_among first rest) parts.0) (λ k at. place_found text rest k parts.1 at) e

-- a text without a place stands nowhere
found_none : (b : Bool) (text first : List ℕ) (rest : List (List ℕ)) (place : ℕ) → bytes_eq text first ≡ b
    → ((k : ℕ) → place_in text rest ≡ None → slice_get rest k ≢ Some text)
    → (if b then Some 0 else option_map (λ (k : ℕ). suc k) (place_in text rest)) ≡ None → slice_get (first ∷ rest) place ≢ Some text
found_none true text first rest place e more none at = absurd cc
found_none false text first rest zero e more none at =
    let same : first ≡ text = cc in
    let yes : false ≡ true = sym e ∙ ap (bytes_eq text) same ∙ equal_bytes text in
    false≢true yes
found_none false text first rest (suc k) e more none at = more k (unmapped (place_in text rest) none) at
  where
    unmapped : (o : Option ℕ) → option_map (λ (n : ℕ). suc n) o ≡ None → o ≡ None
    unmapped None h = refl
    unmapped (Some n) h = absurd cc

pub place_none : (text : List ℕ) (texts : List (List ℕ)) (place : ℕ) → place_in text texts ≡ None → slice_get texts place ≢ Some text
place_none text [] place e = λ at. absurd cc
place_none text (first ∷ rest) place e = found_none (bytes_eq text first) text first rest place refl (place_none text rest) (sym (place_step text first rest) ∙ e)
