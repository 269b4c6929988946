-- What a text spells is a value of the type, and it is one.
use Rattle.std.proofs.Common.{◌≡◌, inl, inr, ℕ, zero, suc, ◌^◌, ◌<◌, Bool, true, ◌&&◌, leb, ltb, List, [], ◌∷◌, length, Option, Some, option_map, IsSome, refl, sym, ap, ◌∙◌, subst, arith}
use Rattle.std.specs.Prelude.{ℤ, unsigned_abs, ◌↔◌}
use Rattle.std.specs.List.{list_all}
use Rattle.std.specs.Str.Parse.{digits_value}
use Rattle.std.proofs.lemmas.Bool.{and_parts, leb-true, lt-ltb}
use Rattle.std.proofs.lemmas.Str.Parse.{digits_value_short}
use Rattle.common_lemmas.proofs.Numbers.{size_of_neg}
use Rattle.common_lemmas.proofs.Options.{mapped}
use Rattle.fact_paths.specs.Names.{is_name}
use Rattle.fact_values.specs.Days.{IsDay}
use Rattle.fact_values.specs.Range.{IsInRange}
use Rattle.fact_values.specs.Rationals.{Ratio, IsRational, lowest, is_small}
use Rattle.fact_values.specs.Texts.{IsPlainText}
use Rattle.fact_values.specs.declared.fact_type.FactType.{FactType}
use Rattle.fact_values.specs.declared.fact_type.FactType.TheVariants as types
use Rattle.fact_values.specs.declared.value.Value.{Value}
use Rattle.fact_values.specs.declared.value.Value.TheVariants as values
use Rattle.fact_values.proofs.Days.{IsDay-years}
use Rattle.fact_values.proofs.Rationals.{IsRational-lowest}
use Rattle.value_text.specs.Digits.{AreDigits}
use Rattle.value_text.specs.Dates.{SpellsDay}
use Rattle.value_text.specs.Dollars.{SpellsSize, SpellsDollar}
use Rattle.value_text.specs.Enums.{Listed, AreLists, are_distinct, are_options, is_listed, options_at, option_at}
use Rattle.value_text.specs.Fractions.{SpellsRational}
use Rattle.value_text.specs.Values.{SpellsValue, printed, value_at}
use Rattle.value_text.specs.ValueLaws.{IsValueOf, canonical}
use Rattle.value_text.specs.Wholes.{SpellsWhole}
use Rattle.value_text.proofs.DateTextLaws.{day_found}
use Rattle.value_text.proofs.DigitLemmas.{own}
use Rattle.value_text.proofs.PrintedTexts.{value_spelled}
use Rattle.value_text.proofs.ParsingLaws.{boolean_found, text_found, choice_found, value_again}
use Rattle.value_text.proofs.SpellingLaws.{dollar_found}
use Rattle.value_text.proofs.WholeLaws.{whole_found, rational_found}

-- ---- values of the type

short : (least most : ℕ) (text : List ℕ) → AreDigits least most text → digits_value 10 text < 10 ^ most
short least most text digits = digits_value_short own text most digits.2 digits.1

in_range : (z : ℤ) (n : ℕ) → unsigned_abs z ≡ n → n < 10 ^ 15 → IsInRange z
in_range z n same small = lt-ltb (unsigned_abs z) 1000000000000000 (omega (arith, same, small))

whole_in_range : (text : List ℕ) (z : ℤ) → SpellsWhole text z → IsInRange z
whole_in_range text z (inl h) = in_range z (digits_value 10 text) (ap unsigned_abs h.1) (short 1 15 text h.0)
whole_in_range text z (inr h) = in_range z (digits_value 10 h.0) (ap unsigned_abs h.3 ∙ size_of_neg (digits_value 10 h.0)) (short 1 15 h.0 h.2)

size_small : (text : List ℕ) (size : ℕ) → SpellsSize text size → size < 10 ^ 15
size_small text size (inl h) = let few = short 1 13 text h.0 in omega (arith, few, h.1)
size_small text size (inr h) =
    let dollars = short 1 13 h.0 h.3 in
    let cents = short 2 2 h.1 h.4 in
    omega (arith, dollars, cents, h.5)

dollar_in_range : (text : List ℕ) (z : ℤ) → SpellsDollar text z → IsInRange z
dollar_in_range text z (inl h) = in_range z h.0 (ap unsigned_abs h.2) (size_small text h.0 h.1)
dollar_in_range text z (inr h) = in_range z h.1 (ap unsigned_abs h.4 ∙ size_of_neg h.1) (size_small h.0 h.1 h.3)

is_rational : (text : List ℕ) (q : Ratio) → SpellsRational text q → IsRational q
is_rational text q h =
    let small : is_small (lowest h.0 h.1) ≡ true = ap is_small (sym h.4) ∙ h.5 in
    let parts = and_parts (leb (unsigned_abs (lowest h.0 h.1).num) 1000000000000) (leb (lowest h.0 h.1).den 1000000000000) small in
    subst IsRational (sym h.4) (IsRational-lowest h.0 h.1 h.3 (leb-true (unsigned_abs (lowest h.0 h.1).num) 1000000000000 parts.0) (leb-true (lowest h.0 h.1).den 1000000000000 parts.1))

is_a_day : (text : List ℕ) (n : ℤ) → SpellsDay text n → IsDay n
is_a_day text n h = subst IsDay h.7.1 ((IsDay-years _ _ _ h.7.0.0).0 h.7.0.1)

there : (o : Option (List ℕ)) (text : List ℕ) → o ≡ Some text → IsSome o
there o text e = subst IsSome (sym e) refl

pub of_type : (lists : List Listed) (want : FactType) (text : List ℕ) (value : Value) → SpellsValue lists want text value → IsValueOf lists want value
of_type lists types.Boolean text (values.Boolean b) h = tt
of_type lists types.Int text (values.Int n) h = whole_in_range text n h
of_type lists types.Dollar text (values.Dollar n) h = dollar_in_range text n h
of_type lists types.Rational text (values.Rational q) h = is_rational text q h
of_type lists types.Day text (values.Day n) h = is_a_day text n h
of_type lists types.Text text (values.Text kept) h = subst IsPlainText (sym h.0) h.1
of_type lists (types.Enum at_list) text (values.Choice list place) h = (h.0, there (option_at lists at_list place) text h.1)
of_type lists want text value h = absurd h

-- ---- one value

distinct_at : (lists : List Listed) (i : ℕ) (options : List (List ℕ)) → list_all is_listed lists ≡ true → options_at lists i ≡ Some options → are_distinct options ≡ true
distinct_at [] i options h e = absurd cc
distinct_at (listed ∷ lists) zero options h e =
    let parts = and_parts (is_listed listed) (list_all is_listed lists) h in
    let own_parts = and_parts (ltb (length listed.options) 4294967296) (is_name listed.name && are_options listed.options) parts.0 in
    let rest = and_parts (is_name listed.name) (are_options listed.options) own_parts.1 in
    let some = and_parts (ltb 0 (length listed.options)) (list_all is_name listed.options && are_distinct listed.options) rest.1 in
    let both = and_parts (list_all is_name listed.options) (are_distinct listed.options) some.1 in
    let same : options ≡ listed.options = cc in
    rw same both.1
distinct_at (listed ∷ lists) (suc i) options h e =
    let parts = and_parts (is_listed listed) (list_all is_listed lists) h in
    distinct_at lists i options parts.1 e

-- every text of a value is read
pub value_found : (lists : List Listed) (want : FactType) (text : List ℕ) (value : Value) → AreLists lists → SpellsValue lists want text value → value_at lists want text ≡ Some value
value_found lists types.Boolean text (values.Boolean b) good h = ap (option_map (λ (v : Bool). values.Boolean v)) (boolean_found text b h)
value_found lists types.Int text (values.Int n) good h = ap (option_map (λ (v : ℤ). values.Int v)) (whole_found text n h)
value_found lists types.Dollar text (values.Dollar n) good h = ap (option_map (λ (v : ℤ). values.Dollar v)) (dollar_found text n h)
value_found lists types.Rational text (values.Rational q) good h = ap (option_map (λ (v : Ratio). values.Rational v)) (rational_found text q h)
value_found lists types.Day text (values.Day n) good h = ap (option_map (λ (v : ℤ). values.Day v)) (day_found text n h)
value_found lists types.Text text (values.Text kept) good h = ap (option_map (λ (v : List ℕ). values.Text v)) (text_found text kept h.0 h.1)
value_found lists (types.Enum at_list) text (values.Choice list place) good h =
    ap (option_map (λ (v : ℕ). values.Choice at_list v)) (choice_found lists at_list place text (λ options e. distinct_at lists at_list options good.listed e) h.1)
    ∙ ap (λ (l : ℕ). Some (values.Choice l place)) (sym h.0)
value_found lists want text value good h = absurd h

pub one_value : (lists : List Listed) (want : FactType) (text : List ℕ) (a b : Value) → AreLists lists → SpellsValue lists want text a → SpellsValue lists want text b → a ≡ b
one_value lists want text a b good h k =
    let at_a = value_found lists want text a good h in
    let at_b = value_found lists want text b good k in
    cc

pub read_exactly : (lists : List Listed) (want : FactType) (text : List ℕ) (value : Value) → AreLists lists → SpellsValue lists want text value ↔ (value_at lists want text ≡ Some value)
read_exactly lists want text value good = (value_found lists want text value good, value_again lists want text value)

-- ---- read and printed

pub read_printed : (lists : List Listed) (want : FactType) (value : Value) → AreLists lists → IsValueOf lists want value → value_at lists want (printed lists value) ≡ Some value
read_printed lists want value good h = value_found lists want (printed lists value) value good (value_spelled lists want value h)

pub printed_again : (lists : List Listed) (want : FactType) (text again : List ℕ) → AreLists lists → canonical lists want text ≡ Some again → canonical lists want again ≡ Some again
printed_again lists want text again good e =
    let m = mapped (printed lists) (value_at lists want text) again e in
    let of = of_type lists want text m.0 (value_again lists want text m.0 m.1) in
    ap (λ (t : List ℕ). canonical lists want t) m.2
    ∙ ap (option_map (printed lists)) (read_printed lists want m.0 good of)
    ∙ ap Some (sym m.2)
