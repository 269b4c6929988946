-- The text that spells a value is UTF-8.
use Rattle.std.proofs.Common.{◌≡◌, inl, inr, ℕ, zero, suc, ◌<◌, Bool, true, false, ◌&&◌, not, List, [], ◌∷◌, ◌++◌, length, Some, refl, sym, ap, subst, ◌∙◌, arith}
use Rattle.std.specs.Prelude.{ℤ, codes, nat_lt, slice_get}
use Rattle.std.specs.Char.{is_ascii_alphabetic, is_ascii_digit}
use Rattle.std.specs.List.{list_all}
use Rattle.std.specs.Str.{IsUtf8, all_ascii_digits, is_utf8}
use Rattle.std.proofs.lemmas.Bool.Decides.{nat_tests}
use Rattle.std.proofs.lemmas.Str.{IsUtf8-append, IsUtf8-from_ascii, IsUtf8-from_is_utf8, IsUtf8-nil}
use Rattle.std.proofs.lemmas.Str.Ascii.{IsAscii-cons, IsAscii-nil}
use Rattle.common_lemmas.proofs.Bools.{both, both_left, both_right}
use Rattle.common_lemmas.proofs.Options.{both_some, mapped}
use Rattle.fact_paths.specs.Names.{IsName, is_name, is_name_byte}
use Rattle.fact_values.specs.Texts.{IsPlainText, has_control}
use Rattle.fact_values.specs.declared.fact_type.FactType.{FactType}
use Rattle.fact_values.specs.declared.fact_type.FactType.TheVariants as types
use Rattle.fact_values.specs.declared.value.Value.{Value}
use Rattle.fact_values.specs.declared.value.Value.TheVariants as values
use Rattle.value_text.specs.Dollars.{SpellsSize}
use Rattle.value_text.specs.Enums.{AreLists, Listed, are_distinct, are_options, is_listed, option_at, options_at}
use Rattle.value_text.specs.Fractions.{SpellsFraction}
use Rattle.value_text.specs.Values.{SpellsValue, printed_boolean}
use Rattle.value_text.specs.Wholes.{SpellsWhole}

-- ---- bytes below 128

byte_before : (b : ℕ) (text : List ℕ) → b < 128 → IsUtf8 text → IsUtf8 (b ∷ text)
byte_before b text small is = IsUtf8-append (b ∷ []) text (IsUtf8-from_ascii (b ∷ []) (IsAscii-cons b [] small IsAscii-nil)) is

digit_small : (b : ℕ) → is_ascii_digit b ≡ true → b < 128
digit_small b h = grind (arith, nat_tests)

letter_small : (b : ℕ) → is_ascii_alphabetic b ≡ true → b < 128
letter_small b h = grind (arith, nat_tests)

name_byte_small : (b : ℕ) → is_name_byte b ≡ true → b < 128
name_byte_small b h = grind (arith, nat_tests)

pub digits_are : (text : List ℕ) → all_ascii_digits text ≡ true → IsUtf8 text
digits_are [] h = IsUtf8-nil
digits_are (b ∷ text) h =
    let parts = both (is_ascii_digit b) (all_ascii_digits text) h in
    byte_before b text (digit_small b parts.0) (digits_are text parts.1)

name_bytes_are : (text : List ℕ) → list_all is_name_byte text ≡ true → IsUtf8 text
name_bytes_are [] h = IsUtf8-nil
name_bytes_are (b ∷ text) h =
    let parts = both (is_name_byte b) (list_all is_name_byte text) h in
    byte_before b text (name_byte_small b parts.0) (name_bytes_are text parts.1)

pub name_is : (text : List ℕ) → IsName text → IsUtf8 text
name_is [] h = IsUtf8-nil
name_is (b ∷ text) h =
    let parts = both _ (list_all is_name_byte text) h in
    byte_before b text (letter_small b (both_left (is_ascii_alphabetic b) _ parts.0)) (name_bytes_are text parts.1)

-- ---- lists of options

pub one_of : {X : Type 0} (test : X → Bool) (xs : List X) (i : ℕ) (x : X) → list_all test xs ≡ true → slice_get xs i ≡ Some x → test x ≡ true
one_of test [] i x all e = absurd cc
one_of test (y ∷ xs) zero x all e = let same : y ≡ x = cc in ap test (sym same) ∙ both_left (test y) (list_all test xs) all
one_of test (y ∷ xs) (suc i) x all e = one_of test xs i x (both_right (test y) (list_all test xs) all) e

-- the list whose option it is
pub list_there : (lists : List Listed) (list place : ℕ) (text : List ℕ) → option_at lists list place ≡ Some text → (e : Listed) × (slice_get lists list ≡ Some e) × (slice_get e.options place ≡ Some text)
list_there lists list place text at =
    let options = both_some (λ (os : List (List ℕ)). slice_get os place) (options_at lists list) text at in
    let listed = mapped (λ (l : Listed). l.options) (slice_get lists list) options.0 options.1 in
    (listed.0, listed.1, ap (λ (os : List (List ℕ)). slice_get os place) (sym listed.2) ∙ options.2)

-- its name, and each of its options, is a name
pub are_named : (lists : List Listed) (list : ℕ) (e : Listed) → AreLists lists → slice_get lists list ≡ Some e → (is_name e.name ≡ true) × (list_all is_name e.options ≡ true)
are_named lists list e are at =
    let parts = both_right (nat_lt (length e.options) 4294967296) (is_name e.name && are_options e.options) (one_of is_listed lists list e are.listed at) in
    let named = both (is_name e.name) (are_options e.options) parts in
    (named.0, both_left (list_all is_name e.options) (are_distinct e.options) (both_right (nat_lt 0 (length e.options)) (list_all is_name e.options && are_distinct e.options) named.1))

option_is : (lists : List Listed) (list place : ℕ) (text : List ℕ) → AreLists lists → option_at lists list place ≡ Some text → IsUtf8 text
option_is lists list place text are at =
    let e = list_there lists list place text at in
    name_is text (one_of is_name e.0.options place text (are_named lists list e.0 are e.1).1 e.2)

-- ---- values

boolean_is : (b : Bool) → IsUtf8 (printed_boolean b)
boolean_is true = name_bytes_are (codes "true") refl
boolean_is false = name_bytes_are (codes "false") refl

whole_is : (text : List ℕ) (number : ℤ) → SpellsWhole text number → IsUtf8 text
whole_is text number (inl h) = digits_are text h.0.2
whole_is text number (inr h) = subst IsUtf8 (sym h.1) (byte_before 45 h.0 (omega arith) (digits_are h.0 h.2.2))

size_is : (text : List ℕ) (size : ℕ) → SpellsSize text size → IsUtf8 text
size_is text size (inl h) = digits_are text h.0.2
size_is text size (inr h) = subst IsUtf8 (sym h.2) (IsUtf8-append h.0 (46 ∷ h.1) (digits_are h.0 h.3.2) (byte_before 46 h.1 (omega arith) (digits_are h.1 h.4.2)))

fraction_is : (text : List ℕ) (num : ℤ) (den : ℕ) → SpellsFraction text num den → IsUtf8 text
fraction_is text num den (inl h) = whole_is text num h.0
fraction_is text num den (inr h) = subst IsUtf8 (sym h.2) (IsUtf8-append h.0 (47 ∷ h.1) (whole_is h.0 num h.3) (byte_before 47 h.1 (omega arith) (digits_are h.1 h.4.2)))

plain_is : (text : List ℕ) → IsPlainText text → IsUtf8 text
plain_is text h = IsUtf8-from_is_utf8 text (both_left (is_utf8 text) (not (has_control text)) (both_right _ (is_utf8 text && not (has_control text)) h))

-- the text that spells a value
pub value_is : (lists : List Listed) → AreLists lists → (t : FactType) (text : List ℕ) (v : Value) → SpellsValue lists t text v → IsUtf8 text
value_is lists are types.Boolean text (values.Boolean b) h = subst IsUtf8 (sym h) (boolean_is b)
value_is lists are types.Int text (values.Int n) h = whole_is text n h
value_is lists are types.Dollar text (values.Dollar n) (inl h) = size_is text h.0 h.1
value_is lists are types.Dollar text (values.Dollar n) (inr h) = subst IsUtf8 (sym h.2) (byte_before 45 h.0 (omega arith) (size_is h.0 h.1 h.3))
value_is lists are types.Rational text (values.Rational q) h = fraction_is text h.0 h.1 h.2
value_is lists are types.Day text (values.Day n) h =
    subst IsUtf8 (sym h.3)
    (IsUtf8-append h.0 (45 ∷ (h.1 ++ 45 ∷ h.2)) (digits_are h.0 h.4.2)
    (byte_before 45 (h.1 ++ 45 ∷ h.2) (omega arith)
    (IsUtf8-append h.1 (45 ∷ h.2) (digits_are h.1 h.5.2) (byte_before 45 h.2 (omega arith) (digits_are h.2 h.6.2)))))
value_is lists are types.Text text (values.Text kept) h = plain_is text h.1
value_is lists are (types.Enum n) text (values.Choice list place) h = option_is lists n place text are h.1
value_is lists are t text v h = absurd h
