-- What a text spells is what reading it gives.
use Rattle.std.proofs.Common.{◌≡◌, ◌⊎◌, ℕ, ◌+◌, ◌-◌, ◌*◌, ◌<◌, Bool, true, false, List, [], ◌∷◌, ◌++◌, length, take, drop, get_or, Option, Some, None, if◌then◌else◌, inl, inr, refl, sym, ap, ◌∙◌, arith, eqb, eqb-true, ne_eqb, length-append, length-take, drop-cons, add-one}
use Rattle.std.proofs.Math.Seq.{take-append_seam, get_or-append_seam, drop-append-add}
use Rattle.std.proofs.Math.ListN.{get_or-append}
use Rattle.std.proofs.lemmas.List.{take-append-drop}
use Rattle.std.specs.Prelude.{ℤ, pos, neg_ℤ, MatchOption}
use Rattle.std.specs.Option.{option_map}
use Rattle.std.specs.Str.Parse.{digits_value}
use Rattle.std.proofs.lemmas.Str.Parse.{not_in_digits}
use Rattle.common_lemmas.proofs.Options.{both_some, mapped}
use Rattle.value_text.specs.Digits.{AreDigits, number_at}
use Rattle.value_text.specs.Dollars.{minus, point, SpellsSize, SpellsDollar, size_around, size_at, dollar_at}
use Rattle.value_text.proofs.DigitLemmas.{own, number_is, number_of}

-- ---- choices and options

-- the side that a choice took
pub chosen : {A : Type 0} (b : Bool) (x y : Option A) (z : A) → (if b then x else y) ≡ Some z → ((b ≡ true) × (x ≡ Some z)) ⊎ ((b ≡ false) × (y ≡ Some z))
chosen true x y z e = inl (refl, e)
chosen false x y z e = inr (refl, e)

-- ---- texts without a sign

-- digits are neither a minus nor a point
pub no_other : (most c : ℕ) (text : List ℕ) (i : ℕ) → AreDigits 1 most text → c < 48 → i < length text → eqb (get_or text i 0) c ≡ false
no_other most c text i digits low lt = ne_eqb (get_or text i 0) c (not_in_digits own text c digits.2 (λ h. absurd (omega arith)) i lt)

-- dollars alone are read
whole_found : (text : List ℕ) → AreDigits 1 13 text → size_at text ≡ Some (100 * digits_value 10 text)
whole_found text digits =
    let no_point = no_other 13 point text (length text - 3) digits (omega arith) (omega arith) in
    rw (no_point, number_of 1 13 text digits) refl

-- dollars and cents are read
cut_found : (dollars cents : List ℕ) → AreDigits 1 13 dollars → AreDigits 2 2 cents → size_at (dollars ++ point ∷ cents) ≡ Some (100 * digits_value 10 dollars + digits_value 10 cents)
cut_found dollars cents d c =
    let cut : length (dollars ++ point ∷ cents) - 3 ≡ length dollars = omega (arith, length-append dollars (point ∷ cents)) in
    let after : drop (length dollars + 1) (dollars ++ point ∷ cents) ≡ cents = drop-append-add dollars (point ∷ cents) 1 in
    rw (cut, get_or-append_seam dollars point cents 0, take-append_seam dollars (point ∷ cents), after, number_of 1 13 dollars d, number_of 2 2 cents c) refl

-- every text of a size is read
pub size_found : (text : List ℕ) (size : ℕ) → SpellsSize text size → size_at text ≡ Some size
size_found text size (inl h) = whole_found text h.0 ∙ ap Some (sym h.1)
size_found text size (inr h) = ap size_at h.2 ∙ cut_found h.0 h.1 h.3 h.4 ∙ ap Some (sym h.5)

-- what is read of a text with no point at the third byte from the end
whole_again : (text : List ℕ) (size : ℕ) → option_map (λ dollars. 100 * dollars) (number_at 1 13 text) ≡ Some size → SpellsSize text size
whole_again text size e =
    let m = mapped (λ (dollars : ℕ). 100 * dollars) (number_at 1 13 text) size e in
    let n = number_is 1 13 text m.0 m.1 in
    inl (n.0, m.2 ∙ ap (λ (x : ℕ). 100 * x) n.1)

-- what is read of a text with one
cut_again : (text : List ℕ) (size : ℕ) → get_or text (length text - 3) 0 ≡ point → size_around (length text - 3) text ≡ Some size → SpellsSize text size
cut_again text size at_cut e =
    let cut : ℕ = length text - 3 in
    let j = both_some (λ (dollars : ℕ). option_map (λ cents. 100 * dollars + cents) (number_at 2 2 (drop (cut + 1) text))) (number_at 1 13 (take cut text)) size e in
    let m = mapped (λ (cents : ℕ). 100 * j.0 + cents) (number_at 2 2 (drop (cut + 1) text)) size j.2 in
    let d = number_is 1 13 (take cut text) j.0 j.1 in
    let c = number_is 2 2 (drop (cut + 1) text) m.0 m.1 in
    let within : cut < length text = omega (arith, length-take cut text) in
    let halves : text ≡ take cut text ++ point ∷ drop (cut + 1) text =
    sym (take-append-drop cut text) ∙ ap (λ (x : List ℕ). take cut text ++ x) (drop-cons text cut 0 within ∙ rw (at_cut, add-one) refl) in
    inr (take cut text, drop (cut + 1) text, halves, d.0, c.0, omega (arith, m.2, d.1, c.1))

-- nothing else is read
pub size_again : (text : List ℕ) (size : ℕ) → size_at text ≡ Some size → SpellsSize text size
size_again text size e =
    elim (chosen (eqb (get_or text (length text - 3) 0) point) (size_around (length text - 3) text) (option_map (λ dollars. 100 * dollars) (number_at 1 13 text)) size e) [
      | inl h ↦ cut_again text size (eqb-true (get_or text (length text - 3) 0) point h.0) h.1
      | inr h ↦ whole_again text size h.1
    ]

-- ---- amounts

-- no text of a size begins with a minus
no_minus : (text : List ℕ) (size : ℕ) → SpellsSize text size → eqb (get_or text 0 0) minus ≡ false
no_minus text size (inl h) = no_other 13 minus text 0 h.0 (omega arith) (omega arith)
no_minus text size (inr h) =
    let first : get_or text 0 0 ≡ get_or h.0 0 0 = ap (λ (x : List ℕ). get_or x 0 0) h.2 ∙ get_or-append h.0 (point ∷ h.1) 0 0 (omega arith) in
    rw first (no_other 13 minus h.0 0 h.3 (omega arith) (omega arith))

-- a size after a minus is read
negative_found : (rest : List ℕ) (size : ℕ) → SpellsSize rest size → dollar_at (minus ∷ rest) ≡ Some (neg_ℤ (pos size))
negative_found rest size s = ap (option_map (λ (n : ℕ). neg_ℤ (pos n))) (size_found rest size s)

-- every text of an amount is read
pub dollar_found : (text : List ℕ) (amount : ℤ) → SpellsDollar text amount → dollar_at text ≡ Some amount
dollar_found text amount (inl h) = rw (no_minus text h.0 h.1) (ap (option_map pos) (size_found text h.0 h.1) ∙ ap Some (sym h.2))
dollar_found text amount (inr h) = ap dollar_at h.2 ∙ negative_found h.0 h.1 h.3 ∙ ap Some (sym h.4)

-- a text whose first byte is a minus
pub first_is : (b : ℕ) (rest : List ℕ) → eqb b minus ≡ true → b ∷ rest ≡ minus ∷ rest
first_is b rest e = ap (λ (x : ℕ). x ∷ rest) (eqb-true b minus e)

-- nothing else is read
pub dollar_again : (text : List ℕ) (amount : ℤ) → dollar_at text ≡ Some amount → SpellsDollar text amount
dollar_again [] amount e = absurd cc
dollar_again (b ∷ rest) amount e =
    elim (chosen (eqb b minus) (option_map (λ (size : ℕ). neg_ℤ (pos size)) (size_at rest)) (option_map pos (size_at (b ∷ rest))) amount e) [
      | inl h ↦ let m = mapped (λ (size : ℕ). neg_ℤ (pos size)) (size_at rest) amount h.1 in
          inr (rest, m.0, first_is b rest h.0, size_again rest m.0 m.1, m.2)
      | inr h ↦ let m = mapped pos (size_at (b ∷ rest)) amount h.1 in
          inl (m.0, size_again (b ∷ rest) m.0 m.1, m.2)
    ]

-- the clause of a reader that gives `dollar_at`
pub spelled_by : (text : List ℕ) (r : Option ℤ) → r ≡ dollar_at text → MatchOption r ((amount : ℤ) → SpellsDollar text amount → ⊥) (λ amount. SpellsDollar text amount)
spelled_by text None e = λ amount spelled. let found = dollar_found text amount spelled in cc
spelled_by text (Some amount) e = dollar_again text amount (sym e)
