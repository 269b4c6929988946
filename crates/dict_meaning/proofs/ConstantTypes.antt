-- A constant's value has the constant's type.
use Rattle.std.proofs.Common.{◌≡◌, ℕ, Bool, true, false, List, length, slice_get, Option, Some, None, option_map, IsSome, unwrap_or, refl, sym, subst, ◌<◌}
use Rattle.std.specs.Prelude.{option_and_then}
use Rattle.std.proofs.lemmas.Option.{slice_get_within}
use Rattle.fact_values.specs.declared.fact_type.FactType.{FactType}
use Rattle.fact_values.specs.declared.fact_type.FactType.TheVariants as types
use Rattle.fact_values.specs.declared.value.Value.{Value}
use Rattle.fact_values.specs.declared.value.Value.TheVariants as values
use Rattle.value_text.specs.Enums.{Listed, list_place, option_at}
use Rattle.value_text.specs.Values.{value_at}
use Rattle.value_text.specs.ValueLaws.{IsValueOf}
use Rattle.value_text.proofs.ParsingLaws.{value_again}
use Rattle.value_text.proofs.TypeLaws.{of_type}
use Rattle.dict_source.specs.Dictionary.{Dictionary as Tree}
use Rattle.dict_source.specs.Tree.{Literal, literal_true, literal_false, literal_int, literal_dollar, literal_rational, literal_day, literal_text, literal_choice}
use Rattle.node_types.specs.Constants.{choice_value, literal_type, literal_value, value_type}
use Rattle.evaluation.specs.Typed.{IsOfType}
use Rattle.answers.specs.Answered.{Answered}
use Rattle.dict_meaning.specs.Fits.{domains}
use Rattle.dict_meaning.specs.Dependencies.{constant_value}

-- ---- options

pub option_within : (o : Option (List ℕ)) → IsSome o → (x : List ℕ) × (o ≡ Some x)
option_within None h = absurd cc
option_within (Some x) h = (x, refl)

pub place_within : (o : Option Listed) (place : ℕ) → IsSome (option_and_then (λ (options : List (List ℕ)). slice_get options place) (option_map (λ (listed : Listed). listed.options) o)) → place < unwrap_or (option_map (λ (e : Listed). length e.options) o) 0
place_within None place h = absurd cc
place_within (Some e) place h =
    let x = option_within (slice_get e.options place) h in
    slice_get_within e.options place x.0 x.1

-- ---- values

-- the value is of the type that it shows
abbrev IsOfItsType : Tree → Answered → Value → Type 0
IsOfItsType d a v = (t : FactType) → value_type v ≡ Some t → IsOfType (domains d a) v t

as_type : (d : Tree) (a : Answered) (v : Value) (u t : FactType) → Some u ≡ Some t → IsOfType (domains d a) v u → IsOfType (domains d a) v t
as_type d a v u t e h = let same : u ≡ t = cc in subst (IsOfType (domains d a) v) same h

shown_type : (d : Tree) (a : Answered) (want : FactType) (v : Value) → IsValueOf d.enums want v → IsOfItsType d a v
shown_type d a types.Boolean (values.Boolean b) h t e = as_type d a (values.Boolean b) types.Boolean t e tt
shown_type d a types.Int (values.Int n) h t e = as_type d a (values.Int n) types.Int t e h
shown_type d a types.Dollar (values.Dollar n) h t e = as_type d a (values.Dollar n) types.Dollar t e h
shown_type d a types.Rational (values.Rational q) h t e = as_type d a (values.Rational q) types.Rational t e h
shown_type d a types.Day (values.Day n) h t e = as_type d a (values.Day n) types.Day t e h
shown_type d a types.Text (values.Text s) h t e = as_type d a (values.Text s) types.Text t e h
shown_type d a (types.Enum n) (values.Choice list place) h t e =
    as_type d a (values.Choice list place) (types.Enum list) t e
    (refl, place_within (slice_get d.enums list) place (subst (λ (l : ℕ). IsSome (option_at d.enums l place)) (sym h.0) h.1))
shown_type d a want v h t e = absurd h

spelled_type : (d : Tree) (a : Answered) (want : FactType) (text : List ℕ) (v : Value) → value_at d.enums want text ≡ Some v → IsOfItsType d a v
spelled_type d a want text v e = shown_type d a want v (of_type d.enums want text v (value_again d.enums want text v e))

choice_type : (d : Tree) (a : Answered) (o : Option ℕ) (text : List ℕ) (v : Value) → choice_value d.enums o text ≡ Some v → IsOfItsType d a v
choice_type d a None text v e = absurd cc
choice_type d a (Some list) text v e = spelled_type d a (types.Enum list) text v e

truth_type : (d : Tree) (a : Answered) (b : Bool) (v : Value) → Some (values.Boolean b) ≡ Some v → IsOfItsType d a v
truth_type d a b v e =
    let same : values.Boolean b ≡ v = cc in
    subst (IsOfItsType d a) same (λ t k. as_type d a (values.Boolean b) types.Boolean t k tt)

value_typed : (d : Tree) (a : Answered) (c : Literal) (v : Value) → literal_value d.enums c ≡ Some v → IsOfItsType d a v
value_typed d a literal_true v e = truth_type d a true v e
value_typed d a literal_false v e = truth_type d a false v e
value_typed d a (literal_int text) v e = spelled_type d a types.Int text v e
value_typed d a (literal_dollar text) v e = spelled_type d a types.Dollar text v e
value_typed d a (literal_rational text) v e = spelled_type d a types.Rational text v e
value_typed d a (literal_day text) v e = spelled_type d a types.Day text v e
value_typed d a (literal_text text) v e = spelled_type d a types.Text text v e
value_typed d a (literal_choice name text) v e = choice_type d a (list_place name d.enums) text v e

-- ---- constants

constant_by : (d : Tree) (a : Answered) (o : Option Value) → ((v : Value) → o ≡ Some v → IsOfItsType d a v) → (t : FactType) → option_and_then value_type o ≡ Some t → IsOfType (domains d a) (unwrap_or o (values.Boolean false)) t
constant_by d a None h t e = absurd cc
constant_by d a (Some v) h t e = h v refl t e

pub constant_typed : (d : Tree) (a : Answered) (c : Literal) (t : FactType) → literal_type d.enums c ≡ Some t → IsOfType (domains d a) (constant_value d.enums c) t
constant_typed d a c t e = constant_by d a (literal_value d.enums c) (value_typed d a c) t e
