-- A table that is found under a name has this name.
use Rattle.std.proofs.Common.{◌≡◌, ℕ, List, [], ◌∷◌, Bool, true, false, cond, Option, Some, refl, ap, ◌∙◌}
use Rattle.std.specs.Prelude.{bytes_eq}
use Rattle.std.proofs.lemmas.Option.{same_Some}
use Rattle.common_lemmas.proofs.Bytes.{same_bytes}
use Rattle.dict_source.specs.Tables.{LookupTable, table_named}

found_here : (hit : Bool) (name : List ℕ) (u t : LookupTable) (rest : Option LookupTable) → bytes_eq name u.name ≡ hit → (rest ≡ Some t → name ≡ t.name) → cond hit (Some u) rest ≡ Some t → name ≡ t.name
found_here true name u t rest is go e = same_bytes name u.name is ∙ ap (λ (x : LookupTable). x.name) (same_Some u t e)
found_here false name u t rest is go e = go e

pub table_has_name : (name : List ℕ) (tables : List LookupTable) (t : LookupTable) → table_named name tables ≡ Some t → name ≡ t.name
table_has_name name [] t e = absurd cc
table_has_name name (u ∷ us) t e = found_here (bytes_eq name u.name) name u t (table_named name us) refl (table_has_name name us t) e
