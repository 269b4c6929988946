-- How a value is judged by its fact's type and limits, and what a command asks of the answers.
use Rattle.std.specs.Prelude.{ℕ, ◌<◌, ◌||◌, Bool, true, false, not, nat_le, nat_lt, List, [], length, slice_get, Option, option_and_then, option_map, unwrap_or}
use Rattle.std.specs.declared.cmp.Ordering.{Ordering}
use Rattle.std.specs.declared.cmp.Ordering.TheVariants.{Less, Equal, Greater}
use Rattle.fact_values.specs.Values.{AreOrdered, order_of}
use Rattle.fact_values.specs.declared.value.Value.{Value}
use Rattle.fact_values.specs.declared.value.Value.TheVariants.{Text}
use Rattle.value_text.specs.Values.{value_at}
use Rattle.text_checks.specs.Checks.{check_says}
use Rattle.dict_source.specs.Dictionary.{Dictionary as Tree, number_from}
use Rattle.node_types.specs.StatedTypes.{type_at}
use Rattle.dict_types.specs.Typed.{numbered}
use Rattle.dict_types.specs.TypedParts.{TypedDictionary}
use Rattle.dict_types.specs.declared.limit.Limit.{Limit}
use Rattle.dict_types.specs.declared.limit.Limit.TheVariants.{Min, Max, MaxLength, Check}
use Rattle.answers.specs.Answered.{Answered, list_of}
use Rattle.dictionary.specs.AcceptedParts.{Named}
use Rattle.dict_meaning.specs.Fits.{is_answered_by, is_overridden_by}

-- ---- values

-- the value of the fact's type that a text spells
abbrev pub value_spelled : Tree → ℕ → List ℕ → Option Value
value_spelled d fact text = option_and_then (λ t. value_at d.enums t text) (type_at d fact)

-- the bytes of a Text
abbrev pub text_of : Value → List ℕ
text_of (Text text) = text
text_of _ = []

-- ---- limits

abbrev pub is_less : Ordering → Bool
is_less Less = true
is_less Equal = false
is_less Greater = false

abbrev pub is_greater : Ordering → Bool
is_greater Less = false
is_greater Equal = false
is_greater Greater = true

-- the value is less than Min, greater than Max, or longer in bytes than MaxLength
abbrev pub breaks : Value → Limit → Bool
breaks v (Min least) = is_less (order_of v least)
breaks v (Max greatest) = is_greater (order_of v greatest)
breaks v (MaxLength most) = nat_lt most (length (text_of v))
breaks v (Check place) = false

-- what the check at a place of the table, from 0, says of the value
abbrev pub says : List Named → ℕ → Value → Bool
says checks place v = check_says (unwrap_or (option_map (λ (c : Named). c.1) (slice_get checks place)) 0) (text_of v)

-- the limit's check says no
abbrev pub fails : List Named → Value → Limit → Bool
fails checks v (Min least) = false
fails checks v (Max greatest) = false
fails checks v (MaxLength most) = false
fails checks v (Check place) = not (says checks place v)

abbrev pub limits_of : TypedDictionary → ℕ → List Limit
limits_of t fact = unwrap_or (numbered t.limits fact) []

-- the place in the fact's list, from 1, of the first limit that the value breaks
abbrev pub first_broken : List Limit → Option Value → Option ℕ
first_broken limits v = option_and_then (λ w. number_from (breaks w) 1 limits) v

-- and of the first whose check says no
abbrev pub first_failed : List Named → List Limit → Option Value → Option ℕ
first_failed checks limits v = option_and_then (λ w. number_from (fails checks w) 1 limits) v

-- ---- answers

-- the collection has 100 members, or all numbers of members are given out
abbrev pub is_full : Answered → ℕ → Bool
is_full a c = nat_le 100 (length (list_of a c)) || nat_le 1000001 a.next

-- ---- what judging a value needs

-- the fact's slots may have an answer or an override
abbrev pub is_given : Tree → ℕ → Bool
is_given d fact = is_answered_by d fact || is_overridden_by d fact

-- what holds of a limit: of the value of a Min or a Max, and of the place of a check
abbrev pub IsLimitBy : (Value → Type 0) → (ℕ → Type 0) → Limit → Type 0
IsLimitBy bound place (Min least) = bound least
IsLimitBy bound place (Max greatest) = bound greatest
IsLimitBy bound place (MaxLength most) = Unit {0}
IsLimitBy bound place (Check n) = place n

-- the value has an order with the limit's, where the limit has one
abbrev pub IsMeasured : Value → Limit → Type 0
IsMeasured v = IsLimitBy (AreOrdered v) (λ n. Unit {0})

-- the limit's check is one of so many
abbrev pub HasCheck : ℕ → Limit → Type 0
HasCheck count = IsLimitBy (λ v. Unit {0}) (λ n. n < count)
