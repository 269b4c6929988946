-- The texts of which lines are made: UTF-8, without newlines, and not long.
use Rattle.saved_text.proofs.Common.{All-cons, All-from_get_or, All-nil, AllByRecursion, Answer, AreLists, Bool, FactType, HasNoNewline, HasNoNewline-append, IsMemberNumber, IsName, IsShort, IsSlotPath, IsUtf8, List, Listed, Override, Side, SlotPath, Some, SpellsValue, Value, [], ap, append-nil, arith, both, codes, collection, decimal, entry, false, inl, inr, is_name, is_name_byte, length, length-append, list_all, list_any, name_short, nat_le, nat_lt, nat_tests, not, not_true, option_at, or_neither, own, printed_boolean, printed_item, printed_rest, refl, side_word, slot_path_text, subst, sym, true, ℕ, ℤ, ◌&&◌, ◌*◌, ◌++◌, ◌<◌, ◌^◌, ◌∙◌, ◌∷◌, ◌≡◌, ◌≢◌, ◌≤◌}
use Rattle.std.proofs.Math.Utf8.{encode, encodes}
use Rattle.std.proofs.lemmas.Fmt.{digits_decimal}
use Rattle.std.proofs.lemmas.Str.Ascii.{IsAscii-cons, IsAscii-nil}
use Rattle.std.proofs.lemmas.Str.{IsUtf8-append, IsUtf8-from_ascii, IsUtf8-from_is_utf8, IsUtf8-nil, encodes-chars, inside_one}
use Rattle.std.specs.Char.{is_ascii_digit, is_control}
use Rattle.std.specs.Int.{is_in_range}
use Rattle.std.specs.Str.{all_ascii_digits, chars, is_utf8}
use Rattle.fact_paths.proofs.NameLaws.{one_of_all}
use Rattle.fact_values.specs.Texts.{IsPlainText, has_control}
use Rattle.value_text.proofs.Decimals.{decimal_of_member}
use Rattle.value_text.proofs.EnumLemmas.{text_short}
use Rattle.value_text.proofs.SpelledTexts.{are_named, list_there, one_of}
use Rattle.value_text.specs.Dollars.{SpellsSize}
use Rattle.value_text.specs.Fractions.{SpellsFraction}
use Rattle.value_text.specs.Wholes.{SpellsWhole}
use Rattle.fact_paths.specs.declared.slot_path.SlotPath.TheVariants as slots
use Rattle.fact_values.specs.declared.fact_type.FactType.TheVariants as types
use Rattle.fact_values.specs.declared.value.Value.TheVariants as values

-- ==== the texts of which the lines are made are UTF-8, and have no newline

pub record IsLine (text : List ℕ) : Type 0 where
  pub utf8 : IsUtf8 text
  pub no_newline : HasNoNewline text

pub line-nil : IsLine []
line-nil = record { utf8 = IsUtf8-nil; no_newline = All-nil (λ b. b ≢ 10) }

pub line-append : (front back : List ℕ) → IsLine front → IsLine back → IsLine (front ++ back)
line-append front back f b = record {
  utf8 = IsUtf8-append front back f.utf8 b.utf8;
  no_newline = HasNoNewline-append front back f.no_newline b.no_newline;
}

-- ---- bytes below 128

line-cons : (b : ℕ) (text : List ℕ) → b < 128 → b ≢ 10 → IsLine text → IsLine (b ∷ text)
line-cons b text small other is =
    line-append (b ∷ []) text (record { utf8 = IsUtf8-from_ascii (b ∷ []) (IsAscii-cons b [] small IsAscii-nil); no_newline = All-cons (λ c. c ≢ 10) b [] other (All-nil (λ c. c ≢ 10)) }) is

-- a test that only such bytes pass
abbrev IsTest : (ℕ → Bool) → Type 0
IsTest test = (b : ℕ) → test b ≡ true → (b < 128) × (b ≢ 10)

passed : (test : ℕ → Bool) → IsTest test → (text : List ℕ) → list_all test text ≡ true → IsLine text
passed test is [] h = line-nil
passed test is (b ∷ text) h =
    let parts = both (test b) (list_all test text) h in
    let byte = is b parts.0 in
    line-cons b text byte.0 byte.1 (passed test is text parts.1)

digit_test : IsTest is_ascii_digit
digit_test b h = (grind (arith, nat_tests), grind (arith, nat_tests))

name_test : IsTest is_name_byte
name_test b h = (grind (arith, nat_tests), grind (arith, nat_tests))

digits_line : (text : List ℕ) → all_ascii_digits text ≡ true → IsLine text
digits_line [] h = line-nil
digits_line (b ∷ text) h =
    let parts = both (is_ascii_digit b) (all_ascii_digits text) h in
    let byte = digit_test b parts.0 in
    line-cons b text byte.0 byte.1 (digits_line text parts.1)

abbrev is_plain_byte : ℕ → Bool
is_plain_byte b = nat_le 32 b && nat_lt b 128

plain_test : IsTest is_plain_byte
plain_test b h = (grind (arith, nat_tests), grind (arith, nat_tests))

-- no byte is below 32 or above 127
pub plain_line : (text : List ℕ) → list_all (λ b. nat_le 32 b && nat_lt b 128) text ≡ true → IsLine text
plain_line text h = passed is_plain_byte plain_test text h

pub word_line : (text : List ℕ) → list_all is_name_byte text ≡ true → IsLine text
word_line text h = passed is_name_byte name_test text h

pub name_line : (text : List ℕ) → IsName text → IsLine text
name_line [] h = line-nil
name_line (b ∷ text) h =
    let parts = both _ _ h in
    let letter : is_name_byte b ≡ true = one_of_all (is_in_range 48 57 b) (is_in_range 65 90 b) (is_in_range 97 122 b) _ _ (both _ _ parts.0).0 in
    let byte = name_test b letter in
    line-cons b text byte.0 byte.1 (word_line text parts.1)

pub decimal_line : (n : ℕ) → n < 2 ^ 64 → IsLine (decimal n)
decimal_line n small = digits_line (decimal n) (digits_decimal own n small)

-- ---- texts of slots and members

pub slot_line : (slot : SlotPath) → IsSlotPath slot → IsLine (slot_path_text slot)
slot_line (slots.Global n) is = line-cons 47 n (omega arith) (omega arith) (name_line n is)
slot_line (slots.Member n k m) is =
    line-cons 47 (n ++ (codes "/#" ++ (decimal k ++ (codes "/" ++ m)))) (omega arith) (omega arith)
    (line-append n (codes "/#" ++ (decimal k ++ (codes "/" ++ m))) (name_line n is.0)
    (line-cons 47 (35 ∷ (decimal k ++ (codes "/" ++ m))) (omega arith) (omega arith)
    (line-cons 35 (decimal k ++ (codes "/" ++ m)) (omega arith) (omega arith)
    (line-append (decimal k) (codes "/" ++ m) (decimal_line k (omega (arith, is.1.1)))
    (line-cons 47 m (omega arith) (omega arith) (name_line m is.2))))))

-- ---- plain texts

no_control_in : (c : ℕ) → is_control c ≡ false → HasNoNewline (encode c)
no_control_in c none = All-from_get_or (λ b. b ≢ 10) (encode c) 0 (λ i low e. let is : c ≡ 10 = inside_one c [] (encode c) i (sym (append-nil (encode c))) low (omega (arith, e)) ∙ e in absurd (let yes_it_is : is_control c ≡ true = ap is_control is in cc))

no_control : (cs : List ℕ) → list_any is_control cs ≡ false → HasNoNewline (encodes cs)
no_control [] none = All-nil (λ b. b ≢ 10)
no_control (c ∷ cs) none =
    let parts = or_neither (is_control c) (list_any is_control cs) none in
    HasNoNewline-append (encode c) (encodes cs) (no_control_in c parts.0) (no_control cs parts.1)

text_line : (text : List ℕ) → IsPlainText text → IsLine text
text_line text h =
    let parts = both (is_utf8 text) (not (has_control text)) (both _ _ h).1 in
    let utf8 = IsUtf8-from_is_utf8 text parts.0 in
    record { utf8 = utf8; no_newline = subst HasNoNewline (encodes-chars text utf8) (no_control (chars text) (not_true (has_control text) parts.1)) }

-- ---- values

size_line : (text : List ℕ) (size : ℕ) → SpellsSize text size → IsLine text
size_line text size (inl h) = digits_line text h.0.2
size_line text size (inr h) = subst IsLine (sym h.2) (line-append h.0 (46 ∷ h.1) (digits_line h.0 h.3.2) (line-cons 46 h.1 (omega arith) (omega arith) (digits_line h.1 h.4.2)))

whole_line : (text : List ℕ) (number : ℤ) → SpellsWhole text number → IsLine text
whole_line text number (inl h) = digits_line text h.0.2
whole_line text number (inr h) = subst IsLine (sym h.1) (line-cons 45 h.0 (omega arith) (omega arith) (digits_line h.0 h.2.2))

fraction_line : (text : List ℕ) (num : ℤ) (den : ℕ) → SpellsFraction text num den → IsLine text
fraction_line text num den (inl h) = whole_line text num h.0
fraction_line text num den (inr h) = subst IsLine (sym h.2) (line-append h.0 (47 ∷ h.1) (whole_line h.0 num h.3) (line-cons 47 h.1 (omega arith) (omega arith) (digits_line h.1 h.4.2)))

boolean_line : (b : Bool) → IsLine (printed_boolean b)
boolean_line true = word_line (codes "true") refl
boolean_line false = word_line (codes "false") refl

-- an option is a name
pub option_name : (lists : List Listed) (list place : ℕ) (text : List ℕ) → AreLists lists → option_at lists list place ≡ Some text → IsName text
option_name lists list place text are e =
    let its_list = list_there lists list place text e in
    one_of is_name its_list.0.options place text (are_named lists list its_list.0 are its_list.1).1 its_list.2

option_line : (lists : List Listed) (list place : ℕ) (text : List ℕ) → AreLists lists → option_at lists list place ≡ Some text → IsLine text
option_line lists list place text are e = name_line text (option_name lists list place text are e)

pub value_line : (lists : List Listed) → AreLists lists → (t : FactType) (text : List ℕ) (v : Value) → SpellsValue lists t text v → IsLine text
value_line lists are types.Boolean text (values.Boolean b) h = subst IsLine (sym h) (boolean_line b)
value_line lists are types.Int text (values.Int n) h = whole_line text n h
value_line lists are types.Dollar text (values.Dollar n) (inl h) = size_line text h.0 h.1
value_line lists are types.Dollar text (values.Dollar n) (inr h) = subst IsLine (sym h.2) (line-cons 45 h.0 (omega arith) (omega arith) (size_line h.0 h.1 h.3))
value_line lists are types.Rational text (values.Rational q) h = fraction_line text h.0 h.1 h.2
value_line lists are types.Day text (values.Day n) h =
    subst IsLine (sym h.3)
    (line-append h.0 (45 ∷ (h.1 ++ 45 ∷ h.2)) (digits_line h.0 h.4.2)
    (line-cons 45 (h.1 ++ 45 ∷ h.2) (omega arith) (omega arith)
    (line-append h.1 (45 ∷ h.2) (digits_line h.1 h.5.2) (line-cons 45 h.2 (omega arith) (omega arith) (digits_line h.2 h.6.2)))))
value_line lists are types.Text text (values.Text kept) h = text_line text h.1
value_line lists are (types.Enum n) text (values.Choice list place) h = option_line lists n place text are h.1
value_line lists are t text v h = absurd h

-- ---- members

pub rest_line : (ms : List ℕ) → AllByRecursion IsMemberNumber ms → IsLine (printed_rest ms)
rest_line [] all = line-nil
rest_line (m ∷ ms) all =
    line-cons 32 (printed_item m ++ printed_rest ms) (omega arith) (omega arith)
    (line-append (printed_item m) (printed_rest ms) (line-cons 35 (decimal m) (omega arith) (omega arith) (decimal_line m (omega (arith, all.0.1)))) (rest_line ms all.1))

-- ==== how long the texts of which the lines are made can be

-- ---- values

size_short : (text : List ℕ) (size : ℕ) → SpellsSize text size → length text ≤ 16
size_short text size (inl h) = omega (arith, h.0.1)
size_short text size (inr h) = omega (arith, ap length h.2, length-append h.0 (46 ∷ h.1), h.3.1, h.4.1)

whole_short : (text : List ℕ) (number : ℤ) → SpellsWhole text number → length text ≤ 16
whole_short text number (inl h) = omega (arith, h.0.1)
whole_short text number (inr h) = omega (arith, ap length h.1, h.2.1)

fraction_short : (text : List ℕ) (num : ℤ) (den : ℕ) → SpellsFraction text num den → length text ≤ 32
fraction_short text num den (inl h) = omega (arith, whole_short text num h.0)
fraction_short text num den (inr h) = omega (arith, ap length h.2, length-append h.0 (47 ∷ h.1), whole_short h.0 num h.3, h.4.1)

boolean_short : (text : List ℕ) (v : Value) (lists : List Listed) → SpellsValue lists types.Boolean text v → length text ≤ 5
boolean_short text (values.Boolean true) lists h = omega (arith, ap length h)
boolean_short text (values.Boolean false) lists h = omega (arith, ap length h)
boolean_short text _ lists h = absurd h

-- the text that spells a value
pub value_short : (lists : List Listed) → AreLists lists → (t : FactType) (text : List ℕ) (v : Value) → SpellsValue lists t text v → length text ≤ 1000
value_short lists are types.Boolean text v h = omega (arith, boolean_short text v lists h)
value_short lists are types.Int text (values.Int n) h = omega (arith, whole_short text n h)
value_short lists are types.Dollar text (values.Dollar n) (inl h) = omega (arith, size_short text h.0 h.1)
value_short lists are types.Dollar text (values.Dollar n) (inr h) = omega (arith, ap length h.2, size_short h.0 h.1 h.3)
value_short lists are types.Rational text (values.Rational q) h = omega (arith, fraction_short text h.0 h.1 h.2)
value_short lists are types.Day text (values.Day n) h =
    omega (arith, ap length h.3, length-append h.0 (45 ∷ (h.1 ++ 45 ∷ h.2)), length-append h.1 (45 ∷ h.2), h.4.1, h.5.1, h.6.1)
value_short lists are types.Text text (values.Text kept) h = text_short text h.1
value_short lists are (types.Enum n) text (values.Choice list place) h = omega (arith, name_short text (option_name lists n place text are h.1))
value_short lists are t text v h = absurd h

-- ---- members

pub rest_short : (ms : List ℕ) → AllByRecursion IsMemberNumber ms → length (printed_rest ms) ≤ 9 * length ms
rest_short [] all = omega arith
rest_short (m ∷ ms) all =
    let digits : length (decimal m) ≤ 7 = decimal_of_member m (omega (arith, all.0.1)) in
    omega (arith, digits, length-append (printed_item m) (printed_rest ms), rest_short ms all.1)

-- ---- lines

pub list_short : (name ms : List ℕ) → length name ≤ 64 → length (printed_rest ms) ≤ 9 * length ms → length ms ≤ 100 → IsShort (collection name ms)
list_short name ms named rest few =
    omega (arith, named, rest, few, length-append (codes "list /" ++ name) (printed_rest ms), length-append (codes "list /") name)

side_short : (side : Side) → length (side_word side) ≤ 9
side_short Answer = omega arith
side_short Override = omega arith

pub entry_short : (side : Side) (path : SlotPath) (text : List ℕ) → length (slot_path_text path) ≤ 140 → length text ≤ 1000 → IsShort (entry side path text)
entry_short side path text low few =
    omega (arith, low, few, side_short side, length-append (side_word side ++ slot_path_text path) (32 ∷ text), length-append (side_word side) (slot_path_text path))
