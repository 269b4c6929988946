-- Members of an object.
use Rattle.std.proofs.Common.{◌≡◌, ℕ, List, true, Option, Some, None, option_and_then, refl, sym, ap, subst, ◌∙◌}
use Rattle.std.specs.Prelude.{is_some, option_map}
use Rattle.std.specs.Str.{bytes_eq}
use Rattle.std.specs.List.{list_any}
use Rattle.std.specs.Ordering.{is_eq, nat_cmp, match_ordering}
use Rattle.std.specs.Cmp.Lexicographic.{slice_cmp}
use Rattle.std.specs.declared.cmp.Ordering.{Ordering}
use Rattle.std.specs.declared.cmp.Ordering.TheVariants.{Equal}
use Rattle.std.proofs.lemmas.Map.Text.{is_eq-slice_cmp}
use Rattle.std.proofs.lemmas.Option.{same_Some}
use Rattle.common_lemmas.proofs.Bools.{both}
use Rattle.common_lemmas.proofs.Bytes.{same_bytes}
use Rattle.common_lemmas.proofs.Options.{both_some, mapped}
use Rattle.serde_json.specs.Data.{Data, string, array, object, Items, Members, no_members, member}
use Rattle.serde_json.specs.Find.{as_str, as_array, as_object, get_member}
use Rattle.fact_json.specs.FactJson.{IsObjectOf, IsOptionalText}
use Rattle.fact_json.specs.FactParsing.{has_no_other, is_optional_text, text_in}
use Rattle.fact_json.proofs.ExprLaws.{text_is}

-- what is there under a test

-- ---- objects, texts and arrays

pub object_is : (keys : List (List ℕ)) (d : Data) (ms : Members) → as_object d ≡ Some ms → has_no_other keys ms ≡ true → IsObjectOf keys d
object_is keys (object m) ms e h = subst (λ (x : Members). has_no_other keys x ≡ true) (sym (same_Some m ms e)) h
object_is keys d ms e h = absurd cc

pub is_object : (keys : List (List ℕ)) (d : Data) → IsObjectOf keys d → (ms : Members) × (d ≡ object ms) × (has_no_other keys ms ≡ true)
is_object keys (object ms) h = (ms, refl, h)
is_object keys d h = absurd h

pub array_is : (d : Data) (ds : Items) → as_array d ≡ Some ds → d ≡ array ds
array_is (array es) ds e = ap array (same_Some es ds e)
array_is d ds e = absurd cc

pub optional_text_found : (o : Option Data) → is_optional_text o ≡ true → IsOptionalText o
optional_text_found None h = tt
optional_text_found (Some (string text)) h = (text, refl)
optional_text_found (Some d) h = absurd cc

pub optional_text_again : (o : Option Data) → IsOptionalText o → is_optional_text o ≡ true
optional_text_again None h = refl
optional_text_again (Some d) h = ap (λ (x : Data). is_some (as_str x)) h.1

pub text_in_found : (o : Option Data) (s : Option (List ℕ)) → text_in o ≡ Some s → o ≡ option_map string s
text_in_found None s e = ap (option_map string) (same_Some None s e)
text_in_found (Some d) s e = let a = mapped _ (as_str d) s e in rw a.2 (ap Some (text_is d a.0 a.1))

pub text_in_again : (o : Option Data) (s : Option (List ℕ)) → o ≡ option_map string s → text_in o ≡ Some s
text_in_again o None h = ap text_in h
text_in_again o (Some s) h = ap text_in h

pub text_found : (o : Option Data) (s : List ℕ) → option_and_then as_str o ≡ Some s → o ≡ Some (string s)
text_found o s e = let a = both_some as_str o s e in a.1 ∙ ap Some (text_is a.0 s a.2)

pub array_found : (o : Option Data) (ds : Items) → option_and_then as_array o ≡ Some ds → o ≡ Some (array ds)
array_found o ds e = let a = both_some as_array o ds e in a.1 ∙ ap Some (array_is a.0 ds a.2)

-- ---- a key that is there is among the known ones

here : (keys : List (List ℕ)) (k l : List ℕ) (e v : Data) (ms : Members) (o : Ordering) → slice_cmp nat_cmp k l ≡ o → list_any (bytes_eq l) keys ≡ true → (get_member k ms ≡ Some v → list_any (bytes_eq k) keys ≡ true)
    → match_ordering o (get_member k ms) (Some e) (get_member k ms) ≡ Some v → list_any (bytes_eq k) keys ≡ true
here keys k l e v ms Equal is known go h = let same : k ≡ l = same_bytes k l (sym (is_eq-slice_cmp k l) ∙ ap is_eq is) in rw same known
here keys k l e v ms o is known go h = go h

pub key_is_known : (keys : List (List ℕ)) (k : List ℕ) (ms : Members) (v : Data) → get_member k ms ≡ Some v → has_no_other keys ms ≡ true → list_any (bytes_eq k) keys ≡ true
key_is_known keys k no_members v e h = absurd cc
key_is_known keys k (member l d ms) v e h =
    let p = both (list_any (bytes_eq l) keys) (has_no_other keys ms) h in
    here keys k l d v ms (slice_cmp nat_cmp k l) refl p.0 (λ later. key_is_known keys k ms v later p.1) e
