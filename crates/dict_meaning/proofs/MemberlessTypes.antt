-- What a slot may have as an answer or an override is of the fact's type whichever members stand.
use Rattle.std.proofs.Common.{◌≡◌, ℕ, Bool, true, false, not, ◌&&◌, IsTrue, is_none, List, Option, Some, None, option_map, refl, subst}
use Rattle.std.specs.Prelude.{option_and_then}
use Rattle.std.specs.List.{All}
use Rattle.fact_paths.specs.declared.fact_path.FactPath.{FactPath}
use Rattle.fact_values.specs.declared.fact_type.FactType.{FactType}
use Rattle.fact_values.specs.declared.fact_type.FactType.TheVariants as types
use Rattle.fact_values.specs.declared.value.Value.{Value}
use Rattle.fact_values.specs.declared.value.Value.TheVariants.{Members, Item}
use Rattle.value_text.specs.Enums.{list_place}
use Rattle.dict_source.specs.Tree.{Source}
use Rattle.dict_source.specs.Facts.{Fact, Stated, scalar, enum_of, writable_list, list_of, item_of}
use Rattle.dict_source.specs.Tables.{LookupTable}
use Rattle.dict_source.specs.Forms.{HasKind, IsDerivedType, IsScalar, IsWellFormed, IsWritableType}
use Rattle.dict_source.specs.Dictionary.{Dictionary as Tree, is_collection}
use Rattle.dict_source.specs.Finding.{fact_at}
use Rattle.node_types.specs.StatedTypes.{stated_type, type_at, type_stated}
use Rattle.evaluation.specs.Typed.{IsOfType}
use Rattle.answers.specs.Answered.{Answered}
use Rattle.answers.specs.declared.edit.Side.{Side}
use Rattle.answers.specs.declared.edit.Side.TheVariants.{Answer, Override}
use Rattle.dict_meaning.specs.Accepted.{Accepted, IsAccepted}
use Rattle.dict_meaning.proofs.HomeLaws.{all_facts}
use Rattle.dict_meaning.specs.Fits.{IsOfFact, answers_of, domains, names_members, overrides_of, takes}

-- ---- types whose values name no members

abbrev is_memberless : FactType → Bool
is_memberless (types.Collection c) = false
is_memberless (types.Item c) = false
is_memberless _ = true

still_typed : (d : Tree) (a b : Answered) (v : Value) (t : FactType) → IsTrue (is_memberless t) → IsOfType (domains d a) v t → IsOfType (domains d b) v t
still_typed d a b (Members ms) (types.Collection c) p k = absurd (cc)
still_typed d a b (Item m) (types.Item c) p k = absurd (cc)
still_typed d a b _ _ p k = k

scalar_memberless : (t : FactType) → IsScalar t → IsTrue (is_memberless t)
scalar_memberless (types.Enum n) k = absurd k
scalar_memberless (types.Collection c) k = absurd k
scalar_memberless (types.Item c) k = absurd k
scalar_memberless _ k = refl

-- ---- what may have an answer or an override states such a type

abbrev pub IsMemberless : Stated → Type 0
IsMemberless (scalar t) = IsScalar t
IsMemberless (enum_of n) = Unit {0}
IsMemberless writable_list = ⊥
IsMemberless (list_of u) = ⊥
IsMemberless (item_of u) = ⊥

written : (stated : Stated) → IsWritableType stated → IsTrue (not (is_collection stated)) → IsMemberless stated
written (scalar t) k h = k
written (enum_of n) k h = tt
written writable_list k h = absurd (cc)
written (list_of u) k h = absurd k
written (item_of u) k h = absurd k

derived : (stated : Stated) → IsDerivedType stated → IsTrue (not (names_members stated)) → IsMemberless stated
derived (scalar t) k h = k
derived (enum_of n) k h = tt
derived writable_list k h = absurd k
derived (list_of u) k h = absurd (cc)
derived (item_of u) k h = absurd (cc)

pub answered : (tables : List LookupTable) (f : Fact) (main : Option Source) → HasKind tables f main → IsTrue (is_none main && not (is_collection f.stated)) → IsMemberless f.stated
answered tables f None k h = written f.stated k.0 h
answered tables f (Some t) k h = absurd (cc)

pub overridden : (tables : List LookupTable) (f : Fact) (main : Option Source) → HasKind tables f main → IsTrue (not (is_none main) && not (names_members f.stated)) → IsMemberless f.stated
overridden tables f None k h = absurd (cc)
overridden tables f (Some t) k h = derived f.stated k.0 h

enum_type : (o : Option ℕ) (t : FactType) → option_map (λ list. types.Enum list) o ≡ Some t → IsTrue (is_memberless t)
enum_type None t e = absurd (cc)
enum_type (Some n) t e = let same : types.Enum n ≡ t = cc in subst (λ (u : FactType). IsTrue (is_memberless u)) same refl

memberless : (d : Tree) (path : Option FactPath) (stated : Stated) → IsMemberless stated → (t : FactType) → type_stated d path stated ≡ Some t → IsTrue (is_memberless t)
memberless d path (scalar u) k t e = let same : u ≡ t = cc in subst (λ (w : FactType). IsTrue (is_memberless w)) same (scalar_memberless u k)
memberless d path (enum_of n) k t e = enum_type (list_place n d.enums) t e
memberless d path writable_list k t e = absurd k
memberless d path (list_of u) k t e = absurd k
memberless d path (item_of u) k t e = absurd k

-- ---- the facts of an accepted dictionary

taker : (side : Side) (d : Tree) (fact : ℕ) → All (IsWellFormed d.tables) d.facts → IsTrue (takes side d fact) → (t : FactType) → type_at d fact ≡ Some t → IsTrue (is_memberless t)
taker Answer d fact all h t = at (fact_at d.facts fact) refl h
  where
    at : (o : Option Fact) → fact_at d.facts fact ≡ o → IsTrue (answers_of o) → option_and_then (stated_type d) o ≡ Some t → IsTrue (is_memberless t)
    at None e h k = absurd (cc)
    at (Some f) e h k = memberless d f.path f.stated (answered d.tables f f.main (all_facts (IsWellFormed d.tables) d.facts fact f all e).kind h) t k
taker Override d fact all h t = at (fact_at d.facts fact) refl h
  where
    at : (o : Option Fact) → fact_at d.facts fact ≡ o → IsTrue (overrides_of o) → option_and_then (stated_type d) o ≡ Some t → IsTrue (is_memberless t)
    at None e h k = absurd (cc)
    at (Some f) e h k = memberless d f.path f.stated (overridden d.tables f f.main (all_facts (IsWellFormed d.tables) d.facts fact f all e).kind h) t k

-- a value of such a fact stays of its type
pub still_of_fact : (names : List (List ℕ)) (d : Accepted) → IsAccepted names d → (a b : Answered) (side : Side) (fact : ℕ) (v : Value) → IsTrue (takes side d.tree fact) → IsOfFact d.tree a fact v → IsOfFact d.tree b fact v
still_of_fact names d accepted a b side fact v h (t, is, typed) = (t, is, still_typed d.tree a b v t (taker side d.tree fact accepted.valid.well_formed h t is) typed)
