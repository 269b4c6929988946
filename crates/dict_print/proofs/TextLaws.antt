-- What is printed of a value is UTF-8.
use Rattle.std.proofs.Common.{IsSome, List, subst, sym}
use Rattle.fact_values.specs.declared.fact_type.FactType.{FactType}
use Rattle.fact_values.specs.declared.fact_type.FactType.TheVariants as types
use Rattle.fact_values.specs.declared.value.Value.{Value}
use Rattle.fact_values.specs.declared.value.Value.TheVariants as values
use Rattle.value_text.specs.Enums.{AreLists, Listed, option_at}
use Rattle.value_text.specs.ValueLaws.{IsValueOf}
use Rattle.value_text.specs.Values.{IsPrinted, printed}
use Rattle.value_text.proofs.PrintedTexts.{value_spelled}
use Rattle.value_text.proofs.SpelledTexts.{value_is}
use Rattle.dict_print.specs.TableTexts.{HasText}

is_printed : (lists : List Listed) (t : FactType) (v : Value) → IsValueOf lists t v → IsPrinted lists v
is_printed lists types.Boolean (values.Boolean b) h = tt
is_printed lists types.Int (values.Int n) h = tt
is_printed lists types.Dollar (values.Dollar n) h = tt
is_printed lists types.Rational (values.Rational q) h = tt
is_printed lists types.Day (values.Day n) h = tt
is_printed lists types.Text (values.Text text) h = tt
is_printed lists (types.Enum n) (values.Choice list place) h = subst (λ l. IsSome (option_at lists l place)) (sym h.0) h.1
is_printed lists t v h = absurd h

-- a value of a type has a text
pub has_text : (lists : List Listed) (t : FactType) (v : Value) → AreLists lists → IsValueOf lists t v → HasText lists v
has_text lists t v are h = record { listed = is_printed lists t v h; utf8 = value_is lists are t (printed lists v) v (value_spelled lists t v h) }
