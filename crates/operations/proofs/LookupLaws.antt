-- What a table has for a value is a text where its values are texts, and holds no memory elsewhere.
use Rattle.std.proofs.Common.{◌≡◌, true, refl}
use Rattle.std.proofs.lemmas.List.Sums.{AllPass-from_list_all}
use Rattle.fact_values.specs.declared.fact_type.FactType.{FactType}
use Rattle.fact_values.specs.declared.fact_type.FactType.TheVariants as types
use Rattle.fact_values.specs.declared.value.Value.{Value}
use Rattle.fact_values.specs.declared.value.Value.TheVariants.{Text, Members}
use Rattle.fact_values.specs.Values.{HoldsMemory}
use Rattle.dict_source.specs.Tables.{IsLookupTable, LookupTable, is_kind, table_values, value_for}
use Rattle.evaluation.proofs.TableLaws.{value_for-among}

text_of_kind : (v : Value) (t : FactType) → is_kind t v ≡ true → HoldsMemory v → t ≡ types.Text
text_of_kind (Text s) types.Text k h = refl
text_of_kind (Members ms) types.Text k h = absurd cc
text_of_kind _ _ k h = absurd cc

pub text_for : (table : LookupTable) (v : Value) → IsLookupTable table → HoldsMemory (value_for table v) → table.to ≡ types.Text
text_for table v t h =
    let kinds = AllPass-from_list_all (is_kind table.to) (table_values table) t.kinds in
    text_of_kind (value_for table v) table.to (value_for-among (λ w. is_kind table.to w ≡ true) table v kinds) h
