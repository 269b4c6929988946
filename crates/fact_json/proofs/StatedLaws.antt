-- The type that a fact states is read of a text just where the text is the type's.
use Rattle.std.proofs.Common.{◌≡◌, ℕ, List, [], ◌∷◌, ◌++◌, Bool, true, false, cond, Option, Some, None, option_and_then, refl, sym, ap, subst, ◌∙◌}
use Rattle.std.specs.Prelude.{codes}
use Rattle.std.specs.Str.{bytes_eq}
use Rattle.std.proofs.lemmas.Option.{same_Some}
use Rattle.common_lemmas.proofs.Bools.{chosen}
use Rattle.common_lemmas.proofs.Bytes.{same_bytes}
use Rattle.common_lemmas.proofs.Options.{both_some}
use Rattle.fact_paths.specs.Cuts.{after}
use Rattle.fact_paths.specs.Names.{is_name}
use Rattle.fact_paths.proofs.CutLaws.{after-append, after_some}
use Rattle.fact_values.specs.declared.fact_type.FactType.{FactType}
use Rattle.fact_values.specs.declared.fact_type.FactType.TheVariants as types
use Rattle.dict_source.specs.Facts.{Stated, scalar, enum_of, writable_list, list_of, item_of}
use Rattle.fact_json.specs.FactJson.{scalar_text, stated_text, IsNamed}
use Rattle.dict_source.specs.Forms.{IsScalar, IsWritableType, IsDerivedType}
use Rattle.dict_source.specs.View.{use_of}
use Rattle.fact_json.specs.StatedParsing.{before_close, between, scalar_names, scalar_named, enum_named, enum_stated, list_stated, scalar_or, writable_stated, item_or, list_or, pathed_stated, derived_stated}
use Rattle.fact_json.proofs.ExprLaws.{is_use, use_again}
use Rattle.fact_json.proofs.NameLaws.{named_so}
use Rattle.fact_json.proofs.StatedParsingLaws.{before_close-close, before_close_some}

-- ---- what stands between

between_some : (front text inner : List ℕ) → between front text ≡ Some inner → text ≡ front ++ (inner ++ 41 ∷ [])
between_some front text inner e =
    let a = both_some before_close (after front text) inner e in
    after_some front text a.0 a.1 ∙ ap (λ x. front ++ x) (before_close_some a.0 inner a.2)

between_again : (front inner : List ℕ) → between front (front ++ (inner ++ 41 ∷ [])) ≡ Some inner
between_again front inner = ap (option_and_then before_close) (after-append front (inner ++ 41 ∷ [])) ∙ before_close-close inner

-- ---- what is read is stated

-- a type of which P holds, and its text
abbrev pub IsOf : (Stated → Type 0) → List ℕ → Stated → Type 0
IsOf P text s = P s × IsNamed s × (text ≡ stated_text s)

scalar_is : (text : List ℕ) (t : FactType) → scalar_named text ≡ Some t → text ≡ scalar_text t → IsScalar t
scalar_is text (types.Enum n) e is = let none : None ≡ Some (types.Enum n) = ap scalar_named (sym is) ∙ e in absurd cc
scalar_is text (types.Collection c) e is = let none : None ≡ Some (types.Collection c) = ap scalar_named (sym is) ∙ e in absurd cc
scalar_is text (types.Item c) e is = let none : None ≡ Some (types.Item c) = ap scalar_named (sym is) ∙ e in absurd cc
scalar_is text t e is = tt

scalar_or_found : (P : Stated → Type 0) → ((t : FactType) → IsScalar t → P (scalar t)) → (text : List ℕ) (other : Option Stated) (o : Option FactType) (s : Stated) → scalar_named text ≡ o → (other ≡ Some s → IsOf P text s) → scalar_or other o ≡ Some s → IsOf P text s
scalar_or_found P of text other None s is go e = go e
scalar_or_found P of text other (Some t) s is go e =
    let same : text ≡ scalar_text t = named_so scalar_text scalar_names text t refl is in
    subst (IsOf P text) (same_Some (scalar t) s e) (of t (scalar_is text t is same), tt, same)

enum_found : (P : Stated → Type 0) → ((n : List ℕ) → P (enum_of n)) → (text : List ℕ) (s : Stated) → enum_stated text ≡ Some s → IsOf P text s
enum_found P of text s e =
    let a = both_some enum_named (between (codes "Enum(") text) s e in
    let g = chosen (is_name a.0) (enum_of a.0) s a.2 in
    subst (IsOf P text) g.1 (of a.0, g.0, between_some (codes "Enum(") text a.0 a.1)

list_found : (hit : Bool) (text : List ℕ) (s : Stated) → bytes_eq text (codes "Collection") ≡ hit → cond hit (Some writable_list) (enum_stated text) ≡ Some s → IsOf IsWritableType text s
list_found true text s same e = subst (IsOf IsWritableType text) (same_Some writable_list s e) (tt, tt, same_bytes text (codes "Collection") same)
list_found false text s same e = enum_found IsWritableType (λ n. tt) text s e

pub writable_stated_found : (text : List ℕ) (s : Stated) → writable_stated text ≡ Some s → IsOf IsWritableType text s
writable_stated_found text s e = scalar_or_found IsWritableType (λ t h. h) text (list_stated text) (scalar_named text) s refl (list_found (bytes_eq text (codes "Collection")) text s refl) e

item_found : (o : Option (List ℕ)) (text : List ℕ) (s : Stated) → between (codes "Item(") text ≡ o → item_or (enum_stated text) o ≡ Some s → IsOf IsDerivedType text s
item_found None text s is e = enum_found IsDerivedType (λ n. tt) text s e
item_found (Some p) text s is e = subst (IsOf IsDerivedType text) (same_Some (item_of (use_of p)) s e) (is_use p, tt, between_some (codes "Item(") text p is)

pathed_found : (o : Option (List ℕ)) (text : List ℕ) (s : Stated) → between (codes "Collection(") text ≡ o → list_or (item_or (enum_stated text) (between (codes "Item(") text)) o ≡ Some s → IsOf IsDerivedType text s
pathed_found None text s is e = item_found (between (codes "Item(") text) text s refl e
pathed_found (Some p) text s is e = subst (IsOf IsDerivedType text) (same_Some (list_of (use_of p)) s e) (is_use p, tt, between_some (codes "Collection(") text p is)

pub derived_stated_found : (text : List ℕ) (s : Stated) → derived_stated text ≡ Some s → IsOf IsDerivedType text s
derived_stated_found text s e = scalar_or_found IsDerivedType (λ t h. h) text (pathed_stated text) (scalar_named text) s refl (pathed_found (between (codes "Collection(") text) text s refl) e

-- ---- what is stated is read

scalar_again : (t : FactType) → IsScalar t → scalar_named (scalar_text t) ≡ Some t
scalar_again (types.Enum e) h = absurd h
scalar_again (types.Collection c) h = absurd h
scalar_again (types.Item c) h = absurd h
scalar_again t h = refl

enum_again : (n : List ℕ) → is_name n ≡ true → enum_stated (codes "Enum(" ++ (n ++ 41 ∷ [])) ≡ Some (enum_of n)
enum_again n h = ap (option_and_then enum_named) (between_again (codes "Enum(") n) ∙ rw h refl

pub writable_stated_again : (s : Stated) → IsWritableType s → IsNamed s → writable_stated (stated_text s) ≡ Some s
writable_stated_again (scalar t) w n = ap (scalar_or (list_stated (scalar_text t))) (scalar_again t w)
writable_stated_again (enum_of e) w n = enum_again e n
writable_stated_again writable_list w n = refl
writable_stated_again s w n = absurd w

pub derived_stated_again : (s : Stated) → IsDerivedType s → IsNamed s → derived_stated (stated_text s) ≡ Some s
derived_stated_again (scalar t) w n = ap (scalar_or (pathed_stated (scalar_text t))) (scalar_again t w)
derived_stated_again (enum_of e) w n = enum_again e n
derived_stated_again writable_list w n = absurd w
derived_stated_again (list_of p) w n =
    let text : List ℕ = codes "Collection(" ++ (p.text ++ 41 ∷ []) in
    ap (list_or (item_or (enum_stated text) (between (codes "Item(") text))) (between_again (codes "Collection(") p.text) ∙ rw (use_again p w) refl
derived_stated_again (item_of p) w n =
    let text : List ℕ = codes "Item(" ++ (p.text ++ 41 ∷ []) in
    ap (item_or (enum_stated text)) (between_again (codes "Item(") p.text) ∙ rw (use_again p w) refl
