-- A list of options that is read is spelled, and one that is spelled is read.
use Rattle.std.proofs.Common.{◌≡◌, ◌≢◌, ℕ, List, [], ◌∷◌, true, false, ◌&&◌, length, Option, Some, None, option_and_then, refl, sym, ap, subst, ◌∙◌, arith}
use Rattle.std.specs.Prelude.{codes, nat_lt}
use Rattle.std.specs.List.{list_all}
use Rattle.std.proofs.lemmas.Bool.{lt-ltb}
use Rattle.std.proofs.lemmas.Option.{same_Some}
use Rattle.common_lemmas.proofs.Bools.{both, chosen}
use Rattle.common_lemmas.proofs.Options.{both_some, mapped}
use Rattle.serde_json.specs.Data.{Data, string, array, Items, no_items, item}
use Rattle.serde_json.specs.Find.{as_str, as_array, as_object, get}
use Rattle.fact_paths.specs.Names.{is_name}
use Rattle.fact_paths.specs.Parsing.{name_of}
use Rattle.value_text.specs.Enums.{Listed, are_distinct, names_of}
use Rattle.fact_json.specs.FactJson.{AreSpelled, items_from}
use Rattle.fact_json.specs.FactParsing.{has_no_other, text_at}
use Rattle.dict_tree.specs.DictParsing.{name_list, if_sound, enum_fields, enum_with, enum_of, enum_list, if_apart, enums_in}
use Rattle.dict_tree.specs.DictJson.{enum_keys, SpellsEnum, SpellEnums}
use Rattle.fact_json.proofs.MemberLaws.{object_is, is_object, array_is, text_found, array_found}
use Rattle.dict_source.proofs.Guards.{guarded}

-- ---- names

pub name_found : (o : Option Data) (n : List ℕ) → option_and_then name_of (option_and_then as_str o) ≡ Some n → (o ≡ Some (string n)) × (is_name n ≡ true)
name_found o n e =
    let a = both_some name_of (option_and_then as_str o) n e in
    let g = chosen (is_name a.0) a.0 n a.2 in
    (text_found o n (a.1 ∙ ap Some g.1), subst (λ (x : List ℕ). is_name x ≡ true) g.1 g.0)

pub name_again : (o : Option Data) (n : List ℕ) → o ≡ Some (string n) → is_name n ≡ true → option_and_then name_of (option_and_then as_str o) ≡ Some n
name_again o n e h = rw (e, h) refl

abbrev AreNames : Items → List (List ℕ) → Type 0
AreNames ds ns = (ds ≡ items_from string ns) × (list_all is_name ns ≡ true)

names_found : (ds : Items) (ns : List (List ℕ)) → name_list ds ≡ Some ns → AreNames ds ns
names_found no_items ns e = subst (AreNames no_items) (same_Some [] ns e) (refl, refl)
names_found (item d ds) ns e =
    let a = both_some _ (option_and_then name_of (as_str d)) ns e in
    let b = mapped _ (name_list ds) ns a.2 in
    let h = name_found (Some d) a.0 a.1 in
    let l = names_found ds b.0 b.1 in
    rw b.2 (ap (λ (x : Data). item x ds) (same_Some d (string a.0) h.0) ∙ ap (item (string a.0)) l.0, rw (h.1, l.1) refl)

names_again : (ns : List (List ℕ)) → list_all is_name ns ≡ true → name_list (items_from string ns) ≡ Some ns
names_again [] h = refl
names_again (n ∷ ns) h = let p = both (is_name n) (list_all is_name ns) h in rw (p.0, names_again ns p.1) refl

-- ---- an enum

pub not_empty : (xs : List (List ℕ)) → nat_lt 0 (length xs) ≡ true → xs ≢ []
not_empty [] h = absurd (let e : false ≡ true = h in cc)
not_empty (x ∷ xs) h = λ e. absurd cc

pub some_there : (xs : List (List ℕ)) → xs ≢ [] → nat_lt 0 (length xs) ≡ true
some_there [] h = absurd (h refl)
some_there (x ∷ xs) h = lt-ltb 0 (length (x ∷ xs)) (omega arith)

pub enum_found : (d : Data) (e : Listed) → enum_of d ≡ Some e → SpellsEnum d e
enum_found d e h =
    let a = both_some (enum_with d) (as_object d) e h in
    let g = guarded (has_no_other enum_keys a.0) _ e a.2 in
    let s = both_some if_sound (enum_fields d) e g.1 in
    let q = chosen (nat_lt 0 (length s.0.options) && are_distinct s.0.options) s.0 e s.2 in
    let n = both_some _ (option_and_then name_of (text_at (codes "name") d)) e (s.1 ∙ ap Some q.1) in
    let o = mapped _ (option_and_then name_list (option_and_then as_array (get (codes "options") d))) e n.2 in
    let l = both_some name_list (option_and_then as_array (get (codes "options") d)) o.0 o.1 in
    let named = name_found (get (codes "name") d) n.0 n.1 in
    let names = names_found l.0 o.0 l.2 in
    let p = both (nat_lt 0 (length o.0)) (are_distinct o.0) (subst (λ (x : Listed). (nat_lt 0 (length x.options) && are_distinct x.options) ≡ true) (q.1 ∙ o.2) q.0) in
    subst (SpellsEnum d) (sym o.2) (record {
      keys = object_is enum_keys d a.0 a.1 g.0;
      name = named.0;
      named = named.1;
      options = array_found (get (codes "options") d) l.0 l.1 ∙ ap (λ (x : Items). Some (array x)) names.0;
      all_named = names.1;
      some = not_empty o.0 p.0;
      distinct = p.1;
    })

pub enum_again : (d : Data) (e : Listed) → SpellsEnum d e → enum_of d ≡ Some e
enum_again d e h =
    let o = is_object enum_keys d h.keys in
    let fields : enum_fields d ≡ Some e = rw (name_again (get (codes "name") d) e.name h.name h.named, h.options, names_again e.options h.all_named) refl in
    let sound : if_sound e ≡ Some e = rw (some_there e.options h.some, h.distinct) refl in
    ap (λ (x : Data). option_and_then (enum_with d) (as_object x)) o.1 ∙ rw o.2 (ap (option_and_then if_sound) fields ∙ sound)

-- ---- lists of them

list_found : (ds : Items) (es : List Listed) → enum_list ds ≡ Some es → AreSpelled SpellsEnum ds es
list_found no_items es e = subst (AreSpelled SpellsEnum no_items) (same_Some [] es e) tt
list_found (item d ds) es e =
    let a = both_some _ (enum_of d) es e in
    let b = mapped _ (enum_list ds) es a.2 in
    rw b.2 (enum_found d a.0 a.1, list_found ds b.0 b.1)

list_again : (ds : Items) (es : List Listed) → AreSpelled SpellsEnum ds es → enum_list ds ≡ Some es
list_again no_items [] h = refl
list_again (item d ds) (e ∷ es) h = rw (enum_again d e h.0, list_again ds es h.1) refl
list_again ds es h = absurd h

pub enums_found : (o : Option Data) (es : List Listed) → enums_in o ≡ Some es → SpellEnums o es
enums_found None es e = sym (same_Some [] es e)
enums_found (Some d) es e =
    let a = both_some if_apart (option_and_then enum_list (as_array d)) es e in
    let q = chosen (are_distinct (names_of a.0)) a.0 es a.2 in
    let l = both_some enum_list (as_array d) a.0 a.1 in
    subst (SpellEnums (Some d)) q.1 (l.0, array_is d l.0 l.1, list_found l.0 a.0 l.2, q.0)

pub enums_again : (o : Option Data) (es : List Listed) → SpellEnums o es → enums_in o ≡ Some es
enums_again None es h = ap Some (sym h)
enums_again (Some d) es h = rw (h.1, list_again h.0 es h.2, h.3) refl
