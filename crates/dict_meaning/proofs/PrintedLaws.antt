-- A value of a type has a text: an option of a type is in its list.
use Rattle.std.proofs.Common.{◌≡◌, ℕ, ◌<◌, IsSome, length, slice_get, Option, Some, None, is_some, option_map, unwrap_or, ap, arith}
use Rattle.std.specs.Prelude.{option_and_then, []}
use Rattle.std.proofs.lemmas.Option.{slice_get-get_or}
use Rattle.fact_values.specs.declared.fact_type.FactType.{FactType}
use Rattle.fact_values.specs.declared.fact_type.FactType.TheVariants as types
use Rattle.fact_values.specs.declared.value.Value.{Value}
use Rattle.fact_values.specs.declared.value.Value.TheVariants as values
use Rattle.value_text.specs.Enums.{Listed, option_at}
use Rattle.value_text.specs.Values.{IsPrinted}
use Rattle.dict_source.specs.Dictionary.{Dictionary as Tree}
use Rattle.evaluation.specs.Typed.{IsOfType}
use Rattle.answers.specs.Answered.{Answered}
use Rattle.dict_meaning.specs.Fits.{domains}

option_there : (o : Option Listed) (place : ℕ) → place < unwrap_or (option_map (λ (e : Listed). length e.options) o) 0
    → IsSome (option_and_then (λ options. slice_get options place) (option_map (λ (e : Listed). e.options) o))
option_there None place h = absurd (omega (arith, h))
option_there (Some e) place h = ap is_some (slice_get-get_or e.options place [] h)

choice_there : (d : Tree) (list n place : ℕ) → list ≡ n → place < unwrap_or (option_map (λ (e : Listed). length e.options) (slice_get d.enums n)) 0 → IsSome (option_at d.enums list place)
choice_there d list n place same h = rw same (option_there (slice_get d.enums n) place h)

pub value_printed : (d : Tree) (a : Answered) (v : Value) (t : FactType) → IsOfType (domains d a) v t → IsPrinted d.enums v
value_printed d a (values.Choice list place) (types.Enum n) h = choice_there d list n place h.0 h.1
value_printed d a (values.Choice list place) t h = absurd h
value_printed d a v t h = tt
