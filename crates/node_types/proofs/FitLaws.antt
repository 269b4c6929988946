-- A table whose values are of the kind of its type fits where each option among them is there.
use Rattle.std.proofs.Common.{◌≡◌, ℕ, Bool, true, false, not, ◌&&◌, ◌||◌, List, [], ◌∷◌, length, Option, Some, None, refl, ap, ◌∙◌}
use Rattle.std.specs.Prelude.{option_map, unwrap_or}
use Rattle.std.specs.List.{list_all}
use Rattle.std.proofs.lemmas.List.Folds.{list_all-map}
use Rattle.fact_values.specs.declared.fact_type.FactType.{FactType}
use Rattle.fact_values.specs.declared.fact_type.FactType.TheVariants.{Enum}
use Rattle.fact_values.specs.declared.value.Value.{Value}
use Rattle.fact_values.specs.declared.value.Value.TheVariants.{Choice}
use Rattle.law_arithmetic.specs.declared.table.Row.{Row}
use Rattle.value_text.specs.Enums.{Listed}
use Rattle.dict_source.specs.Tables.{IsLookupTable, LookupTable, has_option, is_fit, is_kind, table_values}
use Rattle.node_types.specs.ListSizes.{is_enum}
use Rattle.common_lemmas.proofs.Bools.{both}

-- how many options the list has that is there
pub size_of_options : (o : Option Listed) → unwrap_or (option_map (λ (e : Listed). length e.options) o) 0 ≡ unwrap_or (option_map (λ (options : List (List ℕ)). length options) (option_map (λ (listed : Listed). listed.options) o)) 0
size_of_options None = refl
size_of_options (Some e) = refl

module _ (options : ℕ → ℕ) where
  -- the value below the first key, and those of the rows
  pub options_of_rows : (t : LookupTable) → list_all (has_option options) (table_values t) ≡ (has_option options t.below && list_all (λ (row : Row). has_option options row.value) t.rows)
  options_of_rows t = ap (λ b. has_option options t.below && b) (list_all-map (has_option options) (λ (row : Row). row.value) t.rows)

  no_choice : (t : FactType) (list place : ℕ) → is_enum t ≡ false → is_kind t (Choice list place) ≡ true → has_option options (Choice list place) ≡ true
  no_choice (Enum n) list place e k = absurd cc
  no_choice _ list place e k = absurd cc

  -- a value of another type is no option
  kind_has : (t : FactType) (v : Value) → is_enum t ≡ false → is_kind t v ≡ true → has_option options v ≡ true
  kind_has t (Choice list place) e k = no_choice t list place e k
  kind_has t _ e k = refl

  kinds_have : (t : FactType) (vs : List Value) → is_enum t ≡ false → list_all (is_kind t) vs ≡ true → list_all (has_option options) vs ≡ true
  kinds_have t [] e k = refl
  kinds_have t (v ∷ vs) e k =
      let p = both (is_kind t v) (list_all (is_kind t) vs) k in
      rw (kind_has t v e p.0, kinds_have t vs e p.1) refl

  fit_by : (t : FactType) (vs : List Value) → list_all (is_kind t) vs ≡ true → list_all (λ v. is_kind t v && has_option options v) vs ≡ list_all (has_option options) vs
  fit_by t [] k = refl
  fit_by t (v ∷ vs) k =
      let p = both (is_kind t v) (list_all (is_kind t) vs) k in
      rw (p.0, fit_by t vs p.1) refl

  fit_where : (t : FactType) (vs : List Value) (b : Bool) → is_enum t ≡ b → list_all (is_kind t) vs ≡ true → list_all (has_option options) vs ≡ (not b || list_all (has_option options) vs)
  fit_where t vs true e k = refl
  fit_where t vs false e k = kinds_have t vs e k

  -- only the values of an Enum can be unfit
  pub fit_by_options : (t : LookupTable) → IsLookupTable t → is_fit options t ≡ (not (is_enum t.to) || list_all (has_option options) (table_values t))
  fit_by_options t is = fit_by t.to (table_values t) is.kinds ∙ fit_where t.to (table_values t) (is_enum t.to) refl is.kinds
