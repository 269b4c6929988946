-- What a text of a day spells is what reading it gives.
use Rattle.std.proofs.Common.{◌≡◌, inl, inr, ℕ, Bool, true, false, ◌&&◌, List, [], ◌∷◌, ◌++◌, length, get_or, eqb, Option, Some, None, option_and_then, if◌then◌else◌, refl, sym, ap, ◌∙◌, subst, arith}
use Rattle.std.specs.Prelude.{ℤ, pos}
use Rattle.std.specs.Str.Parse.{digits_value}
use Rattle.std.proofs.lemmas.Bool.{and_parts, eqb-true}
use Rattle.jiff_core.proofs.SignedLemmas.{signed_arith}
use Rattle.common_lemmas.proofs.Options.{both_some}
use Rattle.fact_values.specs.Days.{IsDateInRange, IsDateOf, number_of}
use Rattle.value_text.specs.Digits.{AreDigits, number_at}
use Rattle.value_text.specs.Dates.{SpellsDay, is_date, date_number, day_of_date, is_date_text, date_in, day_at}
use Rattle.value_text.proofs.DateLemmas.{date_number-number_of, is_date-IsDateInRange}
use Rattle.value_text.proofs.DigitLemmas.{number_is, number_of as number_of_digits}
use Rattle.value_text.proofs.SpellingLaws.{chosen}

-- ---- dates

-- the number of a date in the range
date_at_range : (y m d : ℕ) → IsDateInRange (pos y) (pos m) (pos d) → date_number y m d ≡ number_of (pos y) (pos m) (pos d)
date_at_range y m d range =
    let m0 = range.0.1.0 in
    let m1 = range.0.1.1 in
    let d0 = range.0.2.0 in
    date_number-number_of y m d (omega (arith, signed_arith)) (omega (arith, signed_arith)) (omega (arith, signed_arith))

date_found : (n : ℤ) (y m d : ℕ) → IsDateOf n (pos y) (pos m) (pos d) → day_of_date y m d ≡ Some n
date_found n y m d h =
    ap (λ b. if b then Some (date_number y m d) else None) ((is_date-IsDateInRange y m d).1 h.0) ∙ ap Some (date_at_range y m d h.0 ∙ h.1)

date_by : (b : Bool) (n : ℤ) (y m d : ℕ) → is_date y m d ≡ b → (if b then Some (date_number y m d) else None) ≡ Some n → IsDateOf n (pos y) (pos m) (pos d)
date_by true n y m d e at =
    let range = (is_date-IsDateInRange y m d).0 e in
    (range, sym (date_at_range y m d range) ∙ cc)
date_by false n y m d e at = absurd cc

-- ---- ten bytes

abbrev ten : ℕ → ℕ → ℕ → ℕ → ℕ → ℕ → ℕ → ℕ → ℕ → ℕ → List ℕ
ten a b c d s e f t g h = a ∷ b ∷ c ∷ d ∷ s ∷ e ∷ f ∷ t ∷ g ∷ h ∷ []

-- the date whose digits stand there
abbrev made : Option ℕ → Option ℕ → Option ℕ → Option ℤ
made year month day = option_and_then (λ y. option_and_then (λ m. option_and_then (λ d. day_of_date y m d) day) month) year

-- ten bytes in two, four and ten
two_of_list : (xs : List ℕ) → length xs ≡ 2 → (a : ℕ) × (b : ℕ) × (xs ≡ a ∷ b ∷ [])
two_of_list (a ∷ b ∷ []) e = (a, b, refl)
two_of_list xs e = absurd (omega arith)

four_of_list : (xs : List ℕ) → length xs ≡ 4 → (a : ℕ) × (b : ℕ) × (c : ℕ) × (d : ℕ) × (xs ≡ a ∷ b ∷ c ∷ d ∷ [])
four_of_list (a ∷ b ∷ xs) e =
    let rest = two_of_list xs (omega arith) in
    (a, b, rest.0, rest.1, ap (λ (l : List ℕ). a ∷ b ∷ l) rest.2)
four_of_list xs e = absurd (omega arith)

ten_of_list : (xs : List ℕ) → length xs ≡ 10 → (a : ℕ) × (b : ℕ) × (c : ℕ) × (d : ℕ) × (s : ℕ) × (e : ℕ) × (f : ℕ) × (t : ℕ) × (g : ℕ) × (h : ℕ) × (xs ≡ ten a b c d s e f t g h)
ten_of_list (a ∷ b ∷ c ∷ d ∷ s ∷ x ∷ xs) e =
    let more = four_of_list xs (omega arith) in
    (a, b, c, d, s, x, more.0, more.1, more.2, more.3, ap (λ (l : List ℕ). a ∷ b ∷ c ∷ d ∷ s ∷ x ∷ l) more.4)
ten_of_list xs e = absurd (omega arith)

-- ---- reading

-- a text of ten bytes with its two dashes is read by its digits
read_ten : (a b c d e f g h : ℕ) → day_at (ten a b c d 45 e f 45 g h) ≡ made (number_at 4 4 (a ∷ b ∷ c ∷ d ∷ [])) (number_at 2 2 (e ∷ f ∷ [])) (number_at 2 2 (g ∷ h ∷ []))
read_ten a b c d e f g h = refl

found_ten : (n : ℤ) (year month day : List ℕ) → AreDigits 4 4 year → AreDigits 2 2 month → AreDigits 2 2 day → IsDateOf n (pos (digits_value 10 year)) (pos (digits_value 10 month)) (pos (digits_value 10 day))
    → made (number_at 4 4 year) (number_at 2 2 month) (number_at 2 2 day) ≡ Some n
found_ten n year month day y m d date =
    ap (λ o. made o (number_at 2 2 month) (number_at 2 2 day)) (number_of_digits 4 4 year y)
    ∙ ap (λ o. made (Some (digits_value 10 year)) o (number_at 2 2 day)) (number_of_digits 2 2 month m)
    ∙ ap (λ o. made (Some (digits_value 10 year)) (Some (digits_value 10 month)) o) (number_of_digits 2 2 day d)
    ∙ date_found n (digits_value 10 year) (digits_value 10 month) (digits_value 10 day) date

-- every text of a day is read
pub day_found : (text : List ℕ) (n : ℤ) → SpellsDay text n → day_at text ≡ Some n
day_found text n h =
    let y = four_of_list h.0 (omega (arith, h.4)) in
    let m = two_of_list h.1 (omega (arith, h.5)) in
    let d = two_of_list h.2 (omega (arith, h.6)) in
    let joint : List ℕ → List ℕ → List ℕ → List ℕ = λ year month day. year ++ 45 ∷ (month ++ 45 ∷ day) in
    let parts : List ℕ → List ℕ → List ℕ → Option ℤ = λ year month day. made (number_at 4 4 year) (number_at 2 2 month) (number_at 2 2 day) in
    ap day_at (h.3 ∙ ap (λ (l : List ℕ). joint l h.1 h.2) y.4 ∙ ap (λ (l : List ℕ). joint (y.0 ∷ y.1 ∷ y.2 ∷ y.3 ∷ []) l h.2) m.2 ∙ ap (joint (y.0 ∷ y.1 ∷ y.2 ∷ y.3 ∷ []) (m.0 ∷ m.1 ∷ [])) d.2)
    ∙ read_ten y.0 y.1 y.2 y.3 m.0 m.1 d.0 d.1
    ∙ sym (ap (λ (l : List ℕ). parts l h.1 h.2) y.4 ∙ ap (λ (l : List ℕ). parts (y.0 ∷ y.1 ∷ y.2 ∷ y.3 ∷ []) l h.2) m.2 ∙ ap (parts (y.0 ∷ y.1 ∷ y.2 ∷ y.3 ∷ []) (m.0 ∷ m.1 ∷ [])) d.2)
    ∙ found_ten n h.0 h.1 h.2 h.4 h.5 h.6 h.7

-- what ten bytes give is spelled
again_ten : (n : ℤ) (year month day : List ℕ) → made (number_at 4 4 year) (number_at 2 2 month) (number_at 2 2 day) ≡ Some n → SpellsDay (year ++ 45 ∷ (month ++ 45 ∷ day)) n
again_ten n year month day e =
    let jy = both_some (λ (y : ℕ). option_and_then (λ m. option_and_then (λ d. day_of_date y m d) (number_at 2 2 day)) (number_at 2 2 month)) (number_at 4 4 year) n e in
    let jm = both_some (λ (m : ℕ). option_and_then (λ d. day_of_date jy.0 m d) (number_at 2 2 day)) (number_at 2 2 month) n jy.2 in
    let jd = both_some (λ (d : ℕ). day_of_date jy.0 jm.0 d) (number_at 2 2 day) n jm.2 in
    let y = number_is 4 4 year jy.0 jy.1 in
    let m = number_is 2 2 month jm.0 jm.1 in
    let d = number_is 2 2 day jd.0 jd.1 in
    let date : IsDateOf n (pos jy.0) (pos jm.0) (pos jd.0) = date_by (is_date jy.0 jm.0 jd.0) n jy.0 jm.0 jd.0 refl jd.2 in
    let by_year : IsDateOf n (pos (digits_value 10 year)) (pos jm.0) (pos jd.0) = subst (λ (k : ℕ). IsDateOf n (pos k) (pos jm.0) (pos jd.0)) y.1 date in
    let by_month : IsDateOf n (pos (digits_value 10 year)) (pos (digits_value 10 month)) (pos jd.0) = subst (λ (k : ℕ). IsDateOf n (pos (digits_value 10 year)) (pos k) (pos jd.0)) m.1 by_year in
    let by_day : IsDateOf n (pos (digits_value 10 year)) (pos (digits_value 10 month)) (pos (digits_value 10 day)) = subst (λ (k : ℕ). IsDateOf n (pos (digits_value 10 year)) (pos (digits_value 10 month)) (pos k)) d.1 by_month in
    (year, month, day, refl, y.0, m.0, d.0, by_day)

dashes : (a b c d s e f t g h : ℕ) (n : ℤ) → is_date_text (ten a b c d s e f t g h) ≡ true → date_in (ten a b c d s e f t g h) ≡ Some n → SpellsDay (ten a b c d s e f t g h) n
dashes a b c d s e f t g h n test at =
    let two = and_parts (eqb s 45) (eqb t 45) test in
    let first : s ≡ 45 = eqb-true s 45 two.0 in
    let second : t ≡ 45 = eqb-true t 45 two.1 in
    subst (λ (x : ℕ). SpellsDay (ten a b c d x e f t g h) n) (sym first)
    (subst (λ (x : ℕ). SpellsDay (ten a b c d 45 e f x g h) n) (sym second) (again_ten n (a ∷ b ∷ c ∷ d ∷ []) (e ∷ f ∷ []) (g ∷ h ∷ []) at))

-- nothing else is read
pub day_again : (text : List ℕ) (n : ℤ) → day_at text ≡ Some n → SpellsDay text n
day_again text n e =
    elim (chosen (is_date_text text) (date_in text) None n e) [
      | inl c ↦
          let parts = and_parts (eqb (length text) 10) (eqb (get_or text 4 0) 45 && eqb (get_or text 7 0) 45) c.0 in
          let l = ten_of_list text (eqb-true (length text) 10 parts.0) in
          subst (λ (x : List ℕ). SpellsDay x n) (sym l.10)
          (dashes l.0 l.1 l.2 l.3 l.4 l.5 l.6 l.7 l.8 l.9 n (ap is_date_text (sym l.10) ∙ c.0) (ap date_in (sym l.10) ∙ c.1))
      | inr c ↦ absurd cc
    ]
