-- What a text of a whole number or a fraction spells is what reading it gives.
use Rattle.std.proofs.Common.{◌≡◌, inl, inr, ℕ, zero, suc, ◌<◌, Bool, true, false, List, [], ◌∷◌, eqb, Option, Some, None, option_map, Ok, Err, if◌then◌else◌, refl, sym, ap, ◌∙◌, subst, arith}
use Rattle.std.specs.Prelude.{ℤ, pos, neg_ℤ}
use Rattle.std.specs.Option.{option_and_then}
use Rattle.std.proofs.lemmas.Str.Parse.{not_in_digits}
use Rattle.common_lemmas.proofs.Options.{both_some, mapped}
use Rattle.fact_paths.specs.Cuts.{Lacks, at_slash}
use Rattle.fact_paths.proofs.CutLaws.{Lacks-at, cut-lacks, cut-append, cut_some}
use Rattle.fact_values.specs.Rationals.{Ratio, lowest, is_small, checked_ratio}
use Rattle.fact_values.specs.declared.fault.ValueFault.TheVariants.{Overflow}
use Rattle.value_text.specs.Digits.{AreDigits, number_at}
use Rattle.value_text.specs.Fractions.{SpellsFraction, SpellsRational, fraction_from, kept, rational_at}
use Rattle.value_text.specs.Wholes.{SpellsWhole, whole_at}
use Rattle.value_text.proofs.DigitLemmas.{own, number_is, number_of}
use Rattle.value_text.proofs.SpellingLaws.{chosen, no_other, first_is}

-- ---- whole numbers

-- every text of a number is read
pub whole_found : (text : List ℕ) (number : ℤ) → SpellsWhole text number → whole_at text ≡ Some number
whole_found text number (inl h) =
    rw (no_other 15 45 text 0 h.0 (omega arith) (omega arith)) (ap (option_map pos) (number_of 1 15 text h.0) ∙ ap Some (sym h.1))
whole_found text number (inr h) =
    ap whole_at h.1 ∙ (ap (option_map (λ (n : ℕ). neg_ℤ (pos n))) (number_of 1 15 h.0 h.2) ∙ ap Some (sym h.3))

-- nothing else is read
pub whole_again : (text : List ℕ) (number : ℤ) → whole_at text ≡ Some number → SpellsWhole text number
whole_again [] number e = absurd cc
whole_again (b ∷ rest) number e =
    elim (chosen (eqb b 45) (option_map (λ (n : ℕ). neg_ℤ (pos n)) (number_at 1 15 rest)) (option_map pos (number_at 1 15 (b ∷ rest))) number e) [
      | inl h ↦ let m = mapped (λ (n : ℕ). neg_ℤ (pos n)) (number_at 1 15 rest) number h.1 in
          let n = number_is 1 15 rest m.0 m.1 in
          inr (rest, first_is b rest h.0, n.0, m.2 ∙ ap (λ (x : ℕ). neg_ℤ (pos x)) n.1)
      | inr h ↦ let m = mapped pos (number_at 1 15 (b ∷ rest)) number h.1 in
          let n = number_is 1 15 (b ∷ rest) m.0 m.1 in
          inl (n.0, m.2 ∙ ap pos n.1)
    ]

-- ---- fractions

-- neither digits nor a number have a slash
digits_lack : (text : List ℕ) → AreDigits 1 15 text → Lacks 47 text
digits_lack text digits = Lacks-at 47 text (λ i lt. not_in_digits own text 47 digits.2 (λ h. absurd (omega arith)) i lt)

whole_lacks : (text : List ℕ) (number : ℤ) → SpellsWhole text number → Lacks 47 text
whole_lacks text number (inl h) = digits_lack text h.0
whole_lacks text number (inr h) = subst (Lacks 47) (sym h.1) (omega arith, digits_lack h.0 h.2)

-- the terms are read
fraction_found : (text : List ℕ) (num : ℤ) (den : ℕ) → SpellsFraction text num den → fraction_from text (at_slash text) ≡ Some (num, den)
fraction_found text num den (inl h) =
    ap (fraction_from text) (cut-lacks 47 text (whole_lacks text num h.0))
    ∙ ap (option_map {U = ℤ × ℕ} (λ (n : ℤ). (n, 1))) (whole_found text num h.0)
    ∙ ap (λ (d : ℕ). Some (num, d)) (sym h.1)
fraction_found text num den (inr h) =
    let at_cut : at_slash text ≡ Some (h.0, h.1) = ap at_slash h.2 ∙ cut-append 47 h.0 h.1 (whole_lacks h.0 num h.3) in
    let made : Option ℤ → Option ℕ → Option (ℤ × ℕ) = λ on od. option_and_then (λ n. option_map (λ d. (n, d)) od) on in
    ap (fraction_from text) at_cut
    ∙ ap (λ o. made o (number_at 1 15 h.1)) (whole_found h.0 num h.3)
    ∙ ap (made (Some num)) (number_of 1 15 h.1 h.4)
    ∙ ap (λ (d : ℕ). Some (num, d)) (sym h.5)

-- and no other
fraction_again : (text : List ℕ) (cut : Option (List ℕ × List ℕ)) (num : ℤ) (den : ℕ) → at_slash text ≡ cut → fraction_from text cut ≡ Some (num, den) → SpellsFraction text num den
fraction_again text None num den at_cut e =
    let m = mapped {B = ℤ × ℕ} (λ (n : ℤ). (n, 1)) (whole_at text) (num, den) e in
    inl (subst (SpellsWhole text) (sym (ap (λ p. p.0) m.2)) (whole_again text m.0 m.1), ap (λ p. p.1) m.2)
fraction_again text (Some parts) num den at_cut e =
    let j = both_some {B = ℤ × ℕ} (λ (n : ℤ). option_map (λ (d : ℕ). (n, d)) (number_at 1 15 parts.1)) (whole_at parts.0) (num, den) e in
    let m = mapped {B = ℤ × ℕ} (λ (d : ℕ). (j.0, d)) (number_at 1 15 parts.1) (num, den) j.2 in
    let n = number_is 1 15 parts.1 m.0 m.1 in
    inr (parts.0, parts.1, cut_some 47 text parts.0 parts.1 at_cut, subst (SpellsWhole parts.0) (sym (ap (λ p. p.0) m.2)) (whole_again parts.0 j.0 j.1), n.0, ap (λ p. p.1) m.2 ∙ n.1)

-- small lowest terms are kept
kept_small : (b : Bool) (q p : Ratio) → kept (if b then Ok q else Err Overflow) ≡ Some p → (b ≡ true) × (p ≡ q)
kept_small true q p e = (refl, cc)
kept_small false q p e = absurd cc

kept_found : (num : ℤ) (den : ℕ) → 0 < den → is_small (lowest num den) ≡ true → kept (checked_ratio num (pos den)) ≡ Some (lowest num den)
kept_found num zero some small = absurd (omega arith)
kept_found num (suc d) some small = ap (λ b. kept (if b then Ok (lowest num (suc d)) else Err Overflow)) small

kept_again : (num : ℤ) (den : ℕ) (q : Ratio) → kept (checked_ratio num (pos den)) ≡ Some q → (0 < den) × (q ≡ lowest num den) × (is_small q ≡ true)
kept_again num zero q e = absurd cc
kept_again num (suc d) q e =
    let k = kept_small (is_small (lowest num (suc d))) (lowest num (suc d)) q e in
    (omega arith, k.1, ap is_small k.1 ∙ k.0)

-- every text of a fraction is read
pub rational_found : (text : List ℕ) (q : Ratio) → SpellsRational text q → rational_at text ≡ Some q
rational_found text q h =
    let small : is_small (lowest h.0 h.1) ≡ true = ap is_small (sym h.4) ∙ h.5 in
    ap (option_and_then (λ terms. kept (checked_ratio terms.0 (pos terms.1)))) (fraction_found text h.0 h.1 h.2)
    ∙ kept_found h.0 h.1 h.3 small ∙ ap Some (sym h.4)

-- nothing else is read
pub rational_again : (text : List ℕ) (q : Ratio) → rational_at text ≡ Some q → SpellsRational text q
rational_again text q e =
    let j = both_some {A = ℤ × ℕ} (λ terms. kept (checked_ratio terms.0 (pos terms.1))) (fraction_from text (at_slash text)) q e in
    let k = kept_again j.0.0 j.0.1 q j.2 in
    (j.0.0, j.0.1, fraction_again text (at_slash text) j.0.0 j.0.1 refl j.1, k.0, k.1, k.2)
