-- The lists of a dictionary that is read may be kept one after the other.
use Rattle.std.proofs.Common.{◌≡◌, ℕ, zero, suc, get_or, List, [], ◌∷◌, ◌++◌, Bool, true, false, not, ◌&&◌, length, Option, Some, None, Ok, refl, sym, subst, ◌∙◌}
use Rattle.std.specs.Prelude.{codes, nat_lt}
use Rattle.std.specs.List.{list_all, list_any}
use Rattle.std.proofs.lemmas.Bool.{and_from, or_parts, not-true}
use Rattle.std.proofs.lemmas.List.{map-append}
use Rattle.common_lemmas.proofs.Bools.{both}
use Rattle.serde_json.specs.Data.{Data, Items, no_items, item}
use Rattle.serde_json.specs.Find.{get}
use Rattle.value_text.specs.Enums.{Listed, is_among, are_distinct, names_of}
use Rattle.dict_source.specs.Dictionary.{Dictionary, number_from, passed}
use Rattle.dict_tree.specs.DictJson.{SpellsEnum, SpellEnums, ValueGives}
use Rattle.fact_json.specs.FactJson.{AreSpelled}
use Rattle.dict_tree.specs.Listing.{may_follow, may_all_follow}
use Rattle.dict_tree.proofs.DistinctLaws.{are_new, are_new_none}
use Rattle.dict_tree.proofs.EnumJsonLaws.{some_there}

abbrev is_sound : Listed → Bool
is_sound e = nat_lt 0 (length e.options) && are_distinct e.options

abbrev is_long : Listed → Bool
is_long e = nat_lt 100 (length e.options)

follows : (seen es : List Listed) → are_new (names_of seen) (names_of es) ≡ true → list_all is_sound es ≡ true → list_any is_long es ≡ false → may_all_follow seen es ≡ true
follows seen [] new sound short = refl
follows seen (e ∷ es) new sound short =
    let n = both (not (is_among e.name (names_of seen))) (are_new (names_of seen ++ e.name ∷ []) (names_of es)) new in
    let s = both (is_sound e) (list_all is_sound es) sound in
    let d = both (nat_lt 0 (length e.options)) (are_distinct e.options) s.0 in
    let l = or_parts (is_long e) (list_any is_long es) short in
    let later : are_new (names_of (seen ++ e ∷ [])) (names_of es) ≡ true = subst (λ (ns : List (List ℕ)). are_new ns (names_of es) ≡ true) (sym (map-append (λ (x : Listed). x.name) seen (e ∷ []))) n.1 in
    let here : may_follow seen e ≡ true = rw (not-true (is_among e.name (names_of seen)) n.0, d.0, d.1, l.0) refl in
    and_from (may_follow seen e) (may_all_follow (seen ++ e ∷ []) es) here (follows (seen ++ e ∷ []) es later s.1 l.1)

all_sound : (ds : Items) (es : List Listed) → AreSpelled SpellsEnum ds es → list_all is_sound es ≡ true
all_sound no_items [] h = refl
all_sound (item d ds) (e ∷ es) h = rw (some_there e.options h.0.some, h.0.distinct, all_sound ds es h.1) refl
all_sound ds es h = absurd h

abbrev AreApart : List Listed → Type 0
AreApart es = (are_distinct (names_of es) ≡ true) × (list_all is_sound es ≡ true)

apart : (o : Option Data) (es : List Listed) → SpellEnums o es → AreApart es
apart None es h = subst AreApart (sym h) (refl, refl)
apart (Some d) es h = (h.3, all_sound h.0 es h.2)

none_passed : (bs : List Bool) (n i : ℕ) → number_from (λ (b : Bool). b) n bs ≡ None → get_or bs i false ≡ false
none_passed [] n i e = refl
none_passed (true ∷ bs) n i e = absurd cc
none_passed (false ∷ bs) n zero e = refl
none_passed (false ∷ bs) n (suc i) e = none_passed bs (suc n) i e

pub lists_may_follow : (d : Data) (dict : Dictionary) → ValueGives d (Ok dict) → may_all_follow [] dict.enums ≡ true
lists_may_follow d dict h =
    let a = apart (get (codes "enums") d) dict.enums h.0.top.enums in
    follows [] dict.enums (are_new_none (names_of dict.enums) ∙ a.0) a.1 (none_passed (passed dict) 1 4 h.1.many)
