-- The text before the last `)` of a stated type, as it is read.
use Rattle.std.proofs.Common.{◌≡◌, ◌≢◌, ℕ, ◌+◌, ◌-◌, ◌==◌, Bool, true, false, cond, List, [], ◌∷◌, ◌++◌, length, take, Option, Some, None, option_map, Bor, refl, sym, ap, ◌∙◌, lit<}
use Rattle.std.proofs.lemmas.Bool.{eqb-true}
use Rattle.std.specs.Prelude.{MatchOption, option_copied}
use Rattle.std.specs.Str.Pattern.{FindsCharSuffix}
use Rattle.std.proofs.lemmas.Option.{none-some, same_Some}
use Rattle.std.proofs.lemmas.Str.Pattern.{strip_suffix_char}
use Rattle.fact_json.specs.StatedParsing.{before_close}

-- a text and a `)`
pub before_close-close : (text : List ℕ) → before_close (text ++ 41 ∷ []) ≡ Some text
before_close-close [] = refl
before_close-close (b ∷ []) = refl
before_close-close (b ∷ c ∷ bs) = ap (option_map (λ rest. b ∷ rest)) (before_close-close (c ∷ bs))

last_is : (b : ℕ) (hit : Bool) (text : List ℕ) → (b == 41) ≡ hit → cond hit (Some []) None ≡ Some text → b ∷ [] ≡ text ++ 41 ∷ []
last_is b true text same found = rw (eqb-true b 41 same, ← same_Some [] text found) refl
last_is b false text same found = absurd (none-some text found)

mapped : (b : ℕ) (o : Option (List ℕ)) (text whole : List ℕ) → option_map (λ rest. b ∷ rest) o ≡ Some text → ((rest : List ℕ) → o ≡ Some rest → whole ≡ rest ++ 41 ∷ []) → b ∷ whole ≡ text ++ 41 ∷ []
mapped b None text whole found go = absurd (none-some text found)
mapped b (Some rest) text whole found go = ap (λ x. b ∷ x) (go rest refl) ∙ ap (λ x. x ++ 41 ∷ []) (same_Some (b ∷ rest) text found)

-- what is found stands before a `)`
pub before_close_some : (whole text : List ℕ) → before_close whole ≡ Some text → whole ≡ text ++ 41 ∷ []
before_close_some [] text found = absurd (none-some text found)
before_close_some (b ∷ []) text found = last_is b (b == 41) text refl found
before_close_some (b ∷ c ∷ bs) text found = mapped b (before_close (c ∷ bs)) text (c ∷ bs) found (λ rest. before_close_some (c ∷ bs) rest)

none_found : (whole : List ℕ) (o : Option (List ℕ)) → before_close whole ≡ o → ((front : List ℕ) → whole ≢ front ++ 41 ∷ []) → None ≡ before_close whole
none_found whole None is h = sym is
none_found whole (Some text) is h = absurd (h text (before_close_some whole text is))

-- what `strip_suffix` says of a text
pub before_close_from_strip : (text : List ℕ) (r : Option (Bor (List ℕ))) → MatchOption r (FindsCharSuffix 41 text None) (λ x. (n : ℕ) × FindsCharSuffix 41 text (Some n) × (x.now ≡ take (length text - n) text) × (length x.now + n ≡ length text)) → option_copied r ≡ before_close text
before_close_from_strip text None h = none_found text (before_close text) refl (strip_suffix_char 41 text None h (lit< tt))
before_close_from_strip text (Some x) h = let split : text ≡ x.now ++ 41 ∷ [] = strip_suffix_char 41 text (Some x) h (lit< tt) in sym (ap before_close split ∙ before_close-close x.now)
