-- A table that fits has values of its type.
use Rattle.std.proofs.Common.{◌≡◌, ℕ, ◌<◌, pos, ◌==◌, true, ◌&&◌, Result, Ok, Err, refl, subst, ltb-true}
use Rattle.std.specs.Prelude.{slice_index_or}
use Rattle.std.proofs.lemmas.List.Sums.{AllPass-from_list_all}
use Rattle.fact_values.specs.declared.fact_type.FactType.{FactType}
use Rattle.fact_values.specs.declared.fact_type.FactType.TheVariants as types
use Rattle.fact_values.specs.declared.fault.ValueFault.{ValueFault}
use Rattle.fact_values.specs.declared.value.Value.{Value}
use Rattle.fact_values.specs.declared.value.Value.TheVariants as values
use Rattle.fact_values.specs.Rationals.{Ratio, checked_ratio}
use Rattle.common_lemmas.proofs.Bools.{both}
use Rattle.common_lemmas.proofs.Numbers.{same_number}
use Rattle.dict_source.specs.Tables.{has_option, is_fit, is_kind, is_ratio, table_values}
use Rattle.three_state.proofs.EqualityLaws.{value_same-Decides}
use Rattle.evaluation.specs.Typed.{Domains, IsOfType, TablesAreTyped}
use Rattle.evaluation.proofs.RangeLaws.{checked_ratio-is-rational}

module _ (dom : Domains) where
  ratio_typed : (q : Ratio) (r : Result Ratio ValueFault) → checked_ratio q.num (pos q.den) ≡ r → is_ratio r q ≡ true → IsOfType dom (values.Rational q) types.Rational
  ratio_typed q (Ok p) e k =
      let same = (value_same-Decides (values.Rational p) (values.Rational q)).0 k in
      subst (λ v. IsOfType dom v types.Rational) same (checked_ratio-is-rational q.num (pos q.den) p e)
  ratio_typed q (Err fault) e k = absurd cc

  option_typed : (list place n : ℕ) → (list == n) ≡ true → has_option dom.options (values.Choice list place) ≡ true → IsOfType dom (values.Choice list place) (types.Enum n)
  option_typed list place n k h =
      let same = same_number list n k in
      (same, subst (λ (l : ℕ). place < dom.options l) same (ltb-true place (dom.options list) h))

  value_typed : (t : FactType) (v : Value) → is_kind t v ≡ true → has_option dom.options v ≡ true → IsOfType dom v t
  value_typed types.Boolean (values.Boolean b) k h = tt
  value_typed types.Int (values.Int n) k h = k
  value_typed types.Dollar (values.Dollar cents) k h = k
  value_typed types.Rational (values.Rational q) k h = ratio_typed q (checked_ratio q.num (pos q.den)) refl k
  value_typed types.Day (values.Day n) k h = k
  value_typed types.Text (values.Text s) k h = k
  value_typed (types.Enum n) (values.Choice list place) k h = option_typed list place n k h
  value_typed _ _ k h = absurd cc

  pub tables_typed : TablesAreTyped dom (is_fit dom.options)
  tables_typed t fits k default within =
      let v = slice_index_or (table_values t) k default in
      let tests = both (is_kind t.to v) (has_option dom.options v) (AllPass-from_list_all (λ w. is_kind t.to w && has_option dom.options w) (table_values t) fits k default within) in
      value_typed t.to v tests.0 tests.1
