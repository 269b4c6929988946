-- The digits of a member's number.
use Rattle.std.proofs.Common.{◌≡◌, ◌≢◌, ℕ, ◌^◌, ◌<◌, true, false, ◌&&◌, leb, ltb, List, [], ◌∷◌, length, get_or, Option, Some, None, Result, Err, refl, sym, ap, ◌∙◌, arith}
use Rattle.std.specs.Prelude.{decimal, MatchOption}
use Rattle.std.specs.Char.{is_ascii_digit}
use Rattle.std.specs.Str.{all_ascii_digits}
use Rattle.std.specs.Str.Parse.{digits_value, ParsesUnsigned}
use Rattle.std.proofs.lemmas.Bool.{and_parts, and_from, ltb-true, leb-true, lt-leb, le-leb, lt-ltb}
use Rattle.std.proofs.lemmas.Fmt.{decimal_digit, decimal-digits_value, digits_decimal, digits_value-decimal, decimal_nonempty, first_decimal}
use Rattle.std.proofs.lemmas.Option.{cond_some, none-some}
use Rattle.std.proofs.lemmas.Result.{OkIff-at_err}
use Rattle.std.proofs.lemmas.Str.Parse.{IsNumeralModel, numerals_by_value, tells_all_ascii_digits, parse_digits}
use Rattle.fact_paths.specs.Cuts.{Lacks}
use Rattle.fact_paths.proofs.NameLaws.{passed_lack}
use Rattle.fact_paths.specs.Paths.{IsMemberNumber, SpellsMemberNumber}
use Rattle.fact_paths.specs.Parsing.{is_numeral, member_number_of}

-- the digits of `parse`, and their value
own : IsNumeralModel (λ ds. all_ascii_digits ds ≡ true) (digits_value 10)
own = numerals_by_value (λ ds. all_ascii_digits ds ≡ true) tells_all_ascii_digits

-- ---- numerals

-- a numeral has digits alone, and begins with none that is 0
numeral_parts : (ds : List ℕ) → is_numeral ds ≡ true → (0 < length ds) × (48 < get_or ds 0 0) × (all_ascii_digits ds ≡ true)
numeral_parts [] h = absurd cc
numeral_parts (d ∷ ds) h =
    let parts = and_parts (ltb 48 d) (all_ascii_digits (d ∷ ds)) h in
    (omega arith, ltb-true 48 d parts.0, parts.1)

-- such digits are a numeral
numeral_from : (ds : List ℕ) → 0 < length ds → 48 < get_or ds 0 0 → all_ascii_digits ds ≡ true → is_numeral ds ≡ true
numeral_from [] some first h = absurd (omega arith)
numeral_from (d ∷ ds) some first h = and_from (ltb 48 d) (all_ascii_digits (d ∷ ds)) (lt-ltb 48 d first) h

-- a numeral is what is printed of its value
decimal-numeral : (ds : List ℕ) → is_numeral ds ≡ true → digits_value 10 ds < 2 ^ 64 → decimal (digits_value 10 ds) ≡ ds
decimal-numeral ds h small =
    let parts = numeral_parts ds h in
    decimal-digits_value own ds parts.2 parts.0 (λ e. absurd (omega (arith, e, parts.1))) small

-- a numeral is not worth 0
positive : (ds : List ℕ) → is_numeral ds ≡ true → digits_value 10 ds ≢ 0
positive ds h e =
    let parts = numeral_parts ds h in
    let zero : ds ≡ 48 ∷ [] = sym (decimal-numeral ds h (omega (arith, e))) ∙ ap decimal e ∙ decimal_digit 0 (omega arith) in
    omega (arith, parts.1, ap (λ (x : List ℕ). get_or x 0 0) zero)

-- what is printed of a member's number is a numeral
numeral-decimal : (k : ℕ) → IsMemberNumber k → is_numeral (decimal k) ≡ true
numeral-decimal k h =
    numeral_from (decimal k) (decimal_nonempty k (omega (arith, h.1))) (first_decimal k (omega (arith, h.0)) (omega (arith, h.1))) (digits_decimal own k (omega (arith, h.1)))

-- ---- numbers of members

-- the digits that are read are those printed of the number
pub member_number_some : (ds : List ℕ) (k : ℕ) → member_number_of ds ≡ Some k → IsMemberNumber k × (ds ≡ decimal k)
member_number_some ds k e =
    let found = cond_some (is_numeral ds && leb (digits_value 10 ds) 1000000) (digits_value 10 ds) k e in
    let parts = and_parts (is_numeral ds) (leb (digits_value 10 ds) 1000000) found.0 in
    let small = leb-true (digits_value 10 ds) 1000000 parts.1 in
    let nonzero = positive ds parts.0 in
    ((omega (arith, found.1, nonzero), omega (arith, found.1, small)), sym (ap decimal (sym found.1) ∙ decimal-numeral ds parts.0 (omega (arith, small))))

-- what is printed of a member's number is read
pub member_number-decimal : (k : ℕ) → IsMemberNumber k → member_number_of (decimal k) ≡ Some k
member_number-decimal k h =
    let value = digits_value-decimal own k (omega (arith, h.1)) in
    rw (numeral-decimal k h, value, le-leb k 1000000 h.1) refl

-- so a text is read as the number that it spells, if there is one
pub member_number_reads : (text : List ℕ) (read : Option ℕ) → read ≡ member_number_of text
    → MatchOption read ((k : ℕ) → ¬ (SpellsMemberNumber text k)) (SpellsMemberNumber text)
member_number_reads text None is = λ k spelled. none-some k (is ∙ ap member_number_of spelled.1 ∙ member_number-decimal k spelled.0)
member_number_reads text (Some k) is = member_number_some text k (sym is)

-- ---- what `parse` gives

-- where `parse` fails the numeral is too large
pub none_from_parse : {E : Type 0} (r : Result ℕ E) (text : List ℕ) (e : E) → is_numeral text ≡ true → ParsesUnsigned 32 10 text r → r ≡ Err e → member_number_of text ≡ None
none_from_parse r text e h p q =
    let parts = numeral_parts text h in
    let wide : digits_value 10 text < 2 ^ 32 → ⊥ = λ small. OkIff-at_err r _ (digits_value 10 text) e (parse_digits own 32 text r p parts.2) q (parts.0, small) in
    rw (h, lt-leb (digits_value 10 text) 1000000 (omega (arith, wide))) refl

-- ---- other bytes

-- what is printed of a number holds no other byte
pub decimal_lacks : (c : ℕ) → is_ascii_digit c ≡ false → (k : ℕ) → IsMemberNumber k → Lacks c (decimal k)
decimal_lacks c outside k h = passed_lack is_ascii_digit c outside (decimal k) (digits_decimal own k (omega (arith, h.1)))
