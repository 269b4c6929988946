-- The type of a fact, as it is kept, and the values of it.
use Rattle.std.proofs.Common.{◌≡◌, ℕ, zero, suc, ◌<◌, Bool, true, false, ◌||◌, IsTrue, IsSome, List, [], ◌∷◌, length, slice_get, bytes_eq, Option, Some, None, option_map, refl, sym, ◌∙◌, subst, arith}
use Rattle.std.specs.Prelude.{option_and_then}
use Rattle.std.proofs.lemmas.List.{length-map}
use Rattle.std.proofs.lemmas.List.Quantifiers.{position-Some}
use Rattle.common_lemmas.proofs.Options.{mapped}
use Rattle.fact_paths.specs.declared.fact_path.FactPath.{FactPath}
use Rattle.fact_values.specs.declared.fact_type.FactType.{FactType}
use Rattle.fact_values.specs.declared.fact_type.FactType.TheVariants as types
use Rattle.fact_values.specs.declared.value.Value.{Value}
use Rattle.fact_values.specs.declared.value.Value.TheVariants as values
use Rattle.value_text.specs.Enums.{Listed, list_place, names_of, option_at}
use Rattle.value_text.specs.Values.{IsRead}
use Rattle.value_text.specs.ValueLaws.{IsValueOf}
use Rattle.dict_source.specs.Facts.{Fact, Stated, scalar, enum_of, writable_list, list_of, item_of}
use Rattle.dict_source.specs.Dictionary.{Dictionary as Tree}
use Rattle.dict_source.specs.Finding.{IsNumber, fact_at}
use Rattle.dict_source.specs.Forms.{HasKind, IsScalar}
use Rattle.dict_types.specs.DictFaults.{AreTypedFacts}
use Rattle.node_types.specs.StatedTypes.{stated_type, type_at, type_stated}
use Rattle.dict_types.specs.Typed.{IsThere, numbered}
use Rattle.dict_types.specs.TypedParts.{TypedFact}
use Rattle.dict_types.proofs.DictLaws.{facts_length, limits_length}
use Rattle.evaluation.specs.Typed.{IsOfType}
use Rattle.answers.specs.Answered.{Answered}
use Rattle.dict_meaning.specs.Accepted.{Accepted, IsAccepted}
use Rattle.dict_meaning.specs.Fits.{answers_of, domains, overrides_of}
use Rattle.dict_meaning.proofs.ConstantTypes.{place_within}
use Rattle.dict_source.specs.Forms.{IsWellFormed}
use Rattle.dict_meaning.proofs.HomeLaws.{all_facts}
use Rattle.dict_meaning.proofs.MemberlessTypes.{IsMemberless, answered, overridden}
use Rattle.graph_session.specs.Judging.{is_given}

-- ---- what is kept of each fact

-- a fact's type and its limits are kept
pub kept_there : (names : List (List ℕ)) (d : Accepted) → IsAccepted names d → (n : ℕ) → IsNumber d.tree.facts n → IsThere d.typed.facts n × IsThere d.typed.limits n
kept_there names d is n h =
    let facts = facts_length d.tree 1 d.tree.facts d.typed.facts is.typed.1 in
    let limits = limits_length names d.tree d.tree.facts d.typed.limits is.typed.2 in
    ((h.0, omega (arith, h.1, facts)), (h.0, omega (arith, h.1, limits)))

typed_in : (d : Tree) (n : ℕ) (fs : List Fact) (ts : List TypedFact) → AreTypedFacts d n fs ts → (i : ℕ) (t : FactType)
    → option_map (λ (k : TypedFact). k.stated) (slice_get ts i) ≡ Some t → option_and_then (stated_type d) (slice_get fs i) ≡ Some t
typed_in d n [] [] h i t e = absurd cc
typed_in d n [] (k ∷ ts) h i t e = absurd h
typed_in d n (f ∷ fs) [] h i t e = absurd h
typed_in d n (f ∷ fs) (k ∷ ts) h zero t e = h.0.0 ∙ e
typed_in d n (f ∷ fs) (k ∷ ts) h (suc i) t e = typed_in d (suc n) fs ts h.2 i t e

-- the type that is kept is the one that the fact states
pub type_kept : (names : List (List ℕ)) (d : Accepted) → IsAccepted names d → (n : ℕ) (t : FactType)
    → option_map (λ (k : TypedFact). k.stated) (numbered d.typed.facts n) ≡ Some t → type_at d.tree n ≡ Some t
type_kept names d is zero t e = absurd cc
type_kept names d is (suc i) t e = typed_in d.tree 1 d.tree.facts d.typed.facts is.typed.1 i t e

-- ---- which types have texts

scalar_read : (lists : List Listed) (t : FactType) → IsScalar t → IsRead lists t
scalar_read lists (types.Enum n) h = absurd h
scalar_read lists (types.Collection c) h = absurd h
scalar_read lists (types.Item c) h = absurd h
scalar_read lists t h = tt

list_within : (lists : List Listed) (name : List ℕ) (list : ℕ) → list_place name lists ≡ Some list → list < length lists
list_within lists name list e =
    let low = (position-Some (bytes_eq name) (names_of lists) list [] e).0 in
    omega (arith, low, length-map lists (λ (l : Listed). l.name))

stated_read : (d : Tree) (path : Option FactPath) (stated : Stated) (t : FactType) → IsMemberless stated → type_stated d path stated ≡ Some t → IsRead d.enums t
stated_read d path (scalar u) t k e = let same : u ≡ t = cc in subst (IsRead d.enums) same (scalar_read d.enums u k)
stated_read d path (enum_of n) t k e =
    let list = mapped (λ list. types.Enum list) (list_place n d.enums) t e in
    subst (IsRead d.enums) (sym list.2) (list_within d.enums n list.0 list.1)
stated_read d path writable_list t k e = absurd k
stated_read d path (list_of u) t k e = absurd k
stated_read d path (item_of u) t k e = absurd k

-- texts of values are read of a fact that may have an answer or an override
pub given_read : (names : List (List ℕ)) (d : Accepted) → IsAccepted names d → (n : ℕ) (t : FactType) → IsTrue (is_given d.tree n) → type_at d.tree n ≡ Some t → IsRead d.tree.enums t
given_read names d is n t h e = at (fact_at d.tree.facts n) refl h e
  where
    at : (o : Option Fact) → fact_at d.tree.facts n ≡ o → (answers_of o || overrides_of o) ≡ true → option_and_then (stated_type d.tree) o ≡ Some t → IsRead d.tree.enums t
    at None found h e = absurd cc
    at (Some f) found h e = stated_read d.tree f.path f.stated t (by (answers_of (Some f)) refl h) e
      where
        kind : HasKind d.tree.tables f f.main
        kind = (all_facts (IsWellFormed d.tree.tables) d.tree.facts n f is.valid.well_formed found).kind

        by : (b : Bool) → answers_of (Some f) ≡ b → (b || overrides_of (Some f)) ≡ true → IsMemberless f.stated
        by true k h = answered d.tree.tables f f.main kind k
        by false k h = overridden d.tree.tables f f.main kind h

-- ---- a value that a text spells is of the type

pub value_typed : (d : Tree) (a : Answered) (t : FactType) (v : Value) → IsValueOf d.enums t v → IsOfType (domains d a) v t
value_typed d a types.Boolean (values.Boolean b) h = tt
value_typed d a types.Int (values.Int n) h = h
value_typed d a types.Dollar (values.Dollar n) h = h
value_typed d a types.Rational (values.Rational q) h = h
value_typed d a types.Day (values.Day n) h = h
value_typed d a types.Text (values.Text s) h = h
value_typed d a (types.Enum n) (values.Choice list place) h =
    let within = place_within (slice_get d.enums list) place (subst (λ (l : ℕ). IsSome (option_at d.enums l place)) (sym h.0) h.1) in
    (h.0, subst (λ (l : ℕ). place < (domains d a).options l) h.0 within)
value_typed d a t v h = absurd h
