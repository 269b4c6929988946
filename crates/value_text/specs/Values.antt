-- The texts of values of all types.
use Rattle.std.specs.Prelude.{◌≡◌, ℕ, ◌<◌, Bool, true, false, List, length, codes, bytes_eq, Option, Some, None, option_map, unwrap_or, IsSome, Result, Ok, Err, if◌then◌else◌}
use Rattle.fact_values.specs.Texts.{IsPlainText, is_plain_text}
use Rattle.fact_values.specs.declared.fact_type.FactType.{FactType}
use Rattle.fact_values.specs.declared.fact_type.FactType.TheVariants as types
use Rattle.fact_values.specs.declared.value.Value.{Value}
use Rattle.fact_values.specs.declared.value.Value.TheVariants as values
use Rattle.value_text.specs.Dates.{SpellsDay, day_at, printed_day}
use Rattle.value_text.specs.Dollars.{SpellsDollar, dollar_at, printed_dollar}
use Rattle.value_text.specs.Enums.{Listed, option_at, option_place_in}
use Rattle.value_text.specs.Fractions.{SpellsRational, rational_at, printed_rational}
use Rattle.value_text.specs.MemberTexts.{printed_item, printed_members}
use Rattle.value_text.specs.Wholes.{SpellsWhole, whole_at, printed_whole}
use Rattle.value_text.specs.declared.value.TextFault.{TextFault}
use Rattle.value_text.specs.declared.value.TextFault.TheVariants.{BadValue, NoMemory}

-- ---- truth values

abbrev pub printed_boolean : Bool → List ℕ
printed_boolean true = codes "true"
printed_boolean false = codes "false"

abbrev pub boolean_at : List ℕ → Option Bool
boolean_at text = if bytes_eq text (codes "true") then Some true else if bytes_eq text (codes "false") then Some false else None

-- ---- which text spells which value

-- The text spells the value of the type. A Choice is an option of its type's list. No text spells members.
abbrev pub SpellsValue : List Listed → FactType → List ℕ → Value → Type 0
SpellsValue lists types.Boolean text (values.Boolean b) = text ≡ printed_boolean b
SpellsValue lists types.Int text (values.Int number) = SpellsWhole text number
SpellsValue lists types.Dollar text (values.Dollar amount) = SpellsDollar text amount
SpellsValue lists types.Rational text (values.Rational q) = SpellsRational text q
SpellsValue lists types.Day text (values.Day day) = SpellsDay text day
SpellsValue lists types.Text text (values.Text kept) = (kept ≡ text) × IsPlainText text
SpellsValue lists (types.Enum at_list) text (values.Choice list place) = (list ≡ at_list) × (option_at lists at_list place ≡ Some text)
SpellsValue lists _ text _ = ⊥

-- ---- what reading gives

-- the text, where a value may hold it
abbrev pub text_at : List ℕ → Option (List ℕ)
text_at text = if is_plain_text text then Some text else None

-- the value of the type that a text spells
abbrev pub value_at : List Listed → FactType → List ℕ → Option Value
value_at lists types.Boolean text = option_map (λ b. values.Boolean b) (boolean_at text)
value_at lists types.Int text = option_map (λ number. values.Int number) (whole_at text)
value_at lists types.Dollar text = option_map (λ amount. values.Dollar amount) (dollar_at text)
value_at lists types.Rational text = option_map (λ q. values.Rational q) (rational_at text)
value_at lists types.Day text = option_map (λ day. values.Day day) (day_at text)
value_at lists types.Text text = option_map (λ kept. values.Text kept) (text_at text)
value_at lists (types.Enum list) text = option_map (λ place. values.Choice list place) (option_place_in lists list text)
value_at lists _ text = None

-- values of the type have texts that are read, and an Enum's list is there
abbrev pub IsRead : List Listed → FactType → Type 0
IsRead lists (types.Enum list) = list < length lists
IsRead lists (types.Collection _) = ⊥
IsRead lists (types.Item _) = ⊥
IsRead lists _ = Unit {0}

-- the answer is what reading gives, and BadValue where it gives nothing; want of memory says nothing
abbrev pub Gives : Option Value → Result Value TextFault → Type 0
Gives read (Ok value) = read ≡ Some value
Gives read (Err BadValue) = read ≡ None
Gives read (Err NoMemory) = Unit {0}

-- Ok is the value that the text spells, and BadValue comes where it spells none. Want of memory says nothing.
abbrev pub Reads : List Listed → FactType → List ℕ → Result Value TextFault → Type 0
Reads lists want text (Ok value) = SpellsValue lists want text value
Reads lists want text (Err BadValue) = (value : Value) → ¬ SpellsValue lists want text value
Reads lists want text (Err NoMemory) = Unit {0}

-- ---- what is printed

-- a Choice is an option of its list
abbrev pub IsPrinted : List Listed → Value → Type 0
IsPrinted lists (values.Choice list place) = IsSome (option_at lists list place)
IsPrinted lists _ = Unit {0}

-- the text of a value
abbrev pub printed : List Listed → Value → List ℕ
printed lists (values.Boolean b) = printed_boolean b
printed lists (values.Int number) = printed_whole number
printed lists (values.Dollar amount) = printed_dollar amount
printed lists (values.Rational q) = printed_rational q
printed lists (values.Day day) = printed_day day
printed lists (values.Text text) = text
printed lists (values.Choice list place) = unwrap_or (option_at lists list place) (codes "")
printed lists (values.Members members) = printed_members members
printed lists (values.Item member) = printed_item member
