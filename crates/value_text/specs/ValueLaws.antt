-- Laws of the texts of values.
use Rattle.std.specs.Prelude.{◌≡◌, ◌↔◌, ℕ, List, Option, Some, option_map, IsSome}
use Rattle.fact_values.specs.Days.{IsDay}
use Rattle.fact_values.specs.Range.{IsInRange}
use Rattle.fact_values.specs.Rationals.{IsRational}
use Rattle.fact_values.specs.Texts.{IsPlainText}
use Rattle.fact_values.specs.declared.fact_type.FactType.{FactType}
use Rattle.fact_values.specs.declared.fact_type.FactType.TheVariants as types
use Rattle.fact_values.specs.declared.value.Value.{Value}
use Rattle.fact_values.specs.declared.value.Value.TheVariants as values
use Rattle.value_text.specs.Enums.{Listed, AreLists, option_at}
use Rattle.value_text.specs.Values.{SpellsValue, printed, value_at}

-- The value is one of the type, whose values are read. Members have no text that is read.
abbrev pub IsValueOf : List Listed → FactType → Value → Type 0
IsValueOf lists types.Boolean (values.Boolean b) = Unit {0}
IsValueOf lists types.Int (values.Int number) = IsInRange number
IsValueOf lists types.Dollar (values.Dollar amount) = IsInRange amount
IsValueOf lists types.Rational (values.Rational q) = IsRational q
IsValueOf lists types.Day (values.Day day) = IsDay day
IsValueOf lists types.Text (values.Text text) = IsPlainText text
IsValueOf lists (types.Enum at_list) (values.Choice list place) = (list ≡ at_list) × IsSome (option_at lists at_list place)
IsValueOf lists _ _ = ⊥

-- a printed value is spelled by its text
abbrev pub PrintedIsSpelled : Type 0
PrintedIsSpelled = (lists : List Listed) (want : FactType) (value : Value) → IsValueOf lists want value → SpellsValue lists want (printed lists value) value

-- what a text spells is a value of the type
abbrev pub SpelledIsOfType : Type 0
SpelledIsOfType = (lists : List Listed) (want : FactType) (text : List ℕ) (value : Value) → SpellsValue lists want text value → IsValueOf lists want value

-- no text spells two values of a type
abbrev pub SpellsOneValue : Type 0
SpellsOneValue =
    (lists : List Listed) (want : FactType) (text : List ℕ) (a b : Value) → AreLists lists
    → SpellsValue lists want text a → SpellsValue lists want text b → a ≡ b

-- a text spells a value exactly where reading the text gives that value
abbrev pub ReadsWhatIsSpelled : Type 0
ReadsWhatIsSpelled =
    (lists : List Listed) (want : FactType) (text : List ℕ) (value : Value) → AreLists lists
    → SpellsValue lists want text value ↔ (value_at lists want text ≡ Some value)

-- reading what was printed gives the value back
abbrev pub ReadsWhatIsPrinted : Type 0
ReadsWhatIsPrinted =
    (lists : List Listed) (want : FactType) (value : Value) → AreLists lists
    → IsValueOf lists want value → value_at lists want (printed lists value) ≡ Some value

-- what is printed of the value that a text spells
abbrev pub canonical : List Listed → FactType → List ℕ → Option (List ℕ)
canonical lists want text = option_map (printed lists) (value_at lists want text)

-- what is read and printed again is one text for each value, which reading and printing leave as it is
abbrev pub PrintedAgainIsSame : Type 0
PrintedAgainIsSame =
    (lists : List Listed) (want : FactType) (text again : List ℕ) → AreLists lists
    → canonical lists want text ≡ Some again → canonical lists want again ≡ Some again

-- no text spells a list of members, or a member
abbrev pub SpellsNoMembers : Type 0
SpellsNoMembers =
    (lists : List Listed) (base : ℕ) (text : List ℕ) (value : Value)
    → (¬ SpellsValue lists (types.Collection base) text value) × (¬ SpellsValue lists (types.Item base) text value)
