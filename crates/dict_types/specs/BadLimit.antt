-- The limits of a fact, and whether they fit it.
use Rattle.std.specs.Prelude.{◌≡◌, ◌⊎◌, ◌≤◌, ℕ, ℤ, pos, negsuc, Bool, true, false, ◌||◌, IsTrue, is_none, nat_le, List, [], ◌∷◌, Option, Some, None, option_map, option_and_then, unwrap_or, Result, Ok, Err, if◌then◌else◌}
use Rattle.std.specs.Bool.{Decides}
use Rattle.std.specs.List.{Any, list_any}
use Rattle.fact_values.specs.declared.fact_type.FactType.{FactType}
use Rattle.fact_values.specs.declared.fact_type.FactType.TheVariants as types
use Rattle.fact_values.specs.declared.value.Value.{Value}
use Rattle.fact_values.specs.declared.value.Value.TheVariants as values
use Rattle.value_text.specs.Enums.{Listed}
use Rattle.value_text.specs.Values.{value_at}
use Rattle.dict_source.specs.Facts.{Fact, Stated, scalar, enum_of, writable_list, list_of, item_of, Bound, least, greatest, max_length, check}
use Rattle.dict_source.specs.Typing.{IsOrdered}
use Rattle.dict_types.specs.declared.limit.Limit.{Limit}
use Rattle.dict_types.specs.declared.limit.Limit.TheVariants as limits
use Rattle.dict_types.specs.declared.bad_limit.LimitFault.{LimitFault}
use Rattle.dict_types.specs.declared.bad_limit.LimitFault.TheVariants as faults
use Rattle.dict_rules.specs.UnknownCheck.{check_place}

-- ---- values of limits

-- a value of a type whose values have an order
abbrev pub ordered_value : List Listed → FactType → List ℕ → Option Value
ordered_value enums types.Int text = value_at enums types.Int text
ordered_value enums types.Dollar text = value_at enums types.Dollar text
ordered_value enums types.Rational text = value_at enums types.Rational text
ordered_value enums types.Day text = value_at enums types.Day text
ordered_value enums _ text = None

abbrev pub bound_value : List Listed → Stated → List ℕ → Option Value
bound_value enums (scalar t) text = ordered_value enums t text
bound_value enums (enum_of n) text = None
bound_value enums writable_list text = None
bound_value enums (list_of u) text = None
bound_value enums (item_of u) text = None

-- from 0 to 1,000
abbrev pub length_in : ℤ → Option ℕ
length_in (pos n) = if nat_le n 1000 then Some n else None
length_in (negsuc n) = None

abbrev pub value_length : Value → Option ℕ
value_length (values.Int n) = length_in n
value_length _ = None

-- the length that a text spells as a whole number
abbrev pub length_at : List Listed → List ℕ → Option ℕ
length_at enums text = option_and_then value_length (value_at enums types.Int text)

abbrev pub is_text : FactType → Bool
is_text types.Text = true
is_text _ = false

abbrev pub takes_text : Stated → Bool
takes_text (scalar t) = is_text t
takes_text (enum_of n) = false
takes_text writable_list = false
takes_text (list_of u) = false
takes_text (item_of u) = false

-- ---- limits

-- The limit of a fact of the stated type: none where it doesn't fit. A check that the table doesn't have is a fault of its own,
-- and here has the place 0.
abbrev pub limit_at : List (List ℕ) → List Listed → Stated → Bound → Option Limit
limit_at names enums stated (least text) = option_map (λ v. limits.Min v) (bound_value enums stated text)
limit_at names enums stated (greatest text) = option_map (λ v. limits.Max v) (bound_value enums stated text)
limit_at names enums stated (max_length text) = if takes_text stated then option_map (λ n. limits.MaxLength n) (length_at enums text) else None
limit_at names enums stated (check name) = if takes_text stated then Some (limits.Check (unwrap_or (check_place names name) 0)) else None

abbrev pub limits_at : List (List ℕ) → List Listed → Stated → List Bound → Option (List Limit)
limits_at names enums stated [] = Some []
limits_at names enums stated (b ∷ bs) = option_and_then (λ l. option_map (λ ls. l ∷ ls) (limits_at names enums stated bs)) (limit_at names enums stated b)

-- ---- limits that stand twice

abbrev pub is_least : Bound → Bool
is_least (least text) = true
is_least (greatest text) = false
is_least (max_length text) = false
is_least (check name) = false

abbrev pub is_greatest : Bound → Bool
is_greatest (least text) = false
is_greatest (greatest text) = true
is_greatest (max_length text) = false
is_greatest (check name) = false

abbrev pub is_max_length : Bound → Bool
is_max_length (least text) = false
is_max_length (greatest text) = false
is_max_length (max_length text) = true
is_max_length (check name) = false

-- both are Min, both Max, or both MaxLength
abbrev pub is_again : Bound → Bound → Bool
is_again (least text) b = is_least b
is_again (greatest text) b = is_greatest b
is_again (max_length text) b = is_max_length b
is_again (check name) b = false

-- Min, Max or MaxLength stands twice
abbrev pub has_twice : List Bound → Bool
has_twice [] = false
has_twice (b ∷ bs) = list_any (is_again b) bs || has_twice bs

-- ---- of a fact

-- the limits of a fact: none where one doesn't fit or stands twice
abbrev pub fact_limits : List (List ℕ) → List Listed → Fact → Option (List Limit)
fact_limits names enums f = if has_twice f.limits then None else limits_at names enums f.stated f.limits

-- ---- the rule in its own words

-- the text is a value of a type whose values have an order
abbrev pub IsBoundOf : List Listed → Stated → List ℕ → Type 0
IsBoundOf enums stated text = (t : FactType) × (v : Value) × (stated ≡ scalar t) × IsOrdered t × (value_at enums t text ≡ Some v)

-- a length stands on a Text alone, and is a whole number from 0 to 1,000
abbrev pub IsLengthOf : List Listed → Stated → List ℕ → Type 0
IsLengthOf enums stated text = (n : ℕ) × (stated ≡ scalar types.Text) × (value_at enums types.Int text ≡ Some (values.Int (pos n))) × (n ≤ 1000)

abbrev pub Fits : List Listed → Stated → Bound → Type 0
Fits enums stated (least text) = IsBoundOf enums stated text
Fits enums stated (greatest text) = IsBoundOf enums stated text
Fits enums stated (max_length text) = IsLengthOf enums stated text
Fits enums stated (check name) = stated ≡ scalar types.Text

-- some limit doesn't fit, or Min, Max or MaxLength stands twice
abbrev pub HasBadLimit : List Listed → Fact → Type 0
HasBadLimit enums f = IsTrue (has_twice f.limits) ⊎ Any (λ b. ¬ Fits enums f.stated b) f.limits

-- the answer is what is wanted, and BadLimit where that is none; want of memory says nothing
abbrev pub Gives : {X Y : Type 0} → (X → Y) → Option Y → Result X LimitFault → Type 0
Gives view wanted (Ok x) = wanted ≡ Some (view x)
Gives view wanted (Err faults.BadLimit) = wanted ≡ None
Gives view wanted (Err faults.NoMemory) = Unit {0}

-- ---- a law

-- the test says what the rule says in its own words
abbrev pub BadLimitsAreByRule : Type 0
BadLimitsAreByRule = (names : List (List ℕ)) (enums : List Listed) (f : Fact) → Decides (is_none (fact_limits names enums f)) (HasBadLimit enums f)
