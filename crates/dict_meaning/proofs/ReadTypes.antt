-- What an expression reads from typed results has the types of its reads.
use Rattle.std.proofs.Common.{◌≡◌, ℕ, Bool, true, false, ◌==◌, List, Option, Some, None, unwrap_or, if◌then◌else◌, refl, ap, subst, ◌∙◌}
use Rattle.std.specs.Prelude.{option_and_then}
use Rattle.fact_paths.specs.declared.use_path.UsePath.{UsePath}
use Rattle.fact_paths.specs.declared.use_path.UsePath.TheVariants.{Global, Sibling, Inner, Each, Through, SiblingThrough}
use Rattle.fact_values.specs.declared.fact_type.FactType.{FactType}
use Rattle.fact_values.specs.declared.fact_type.FactType.TheVariants as types
use Rattle.fact_values.specs.declared.slot.Slot.{Slot}
use Rattle.fact_values.specs.declared.value.Value.{Value}
use Rattle.fact_values.specs.declared.value.Value.TheVariants.{Item}
use Rattle.dict_source.specs.declared.operators.ReadOp.{ReadOp}
use Rattle.dict_source.specs.declared.operators.ReadOp.TheVariants.{Dependency, IsComplete, CollectionSize, CollectionSum, Count}
use Rattle.dict_source.specs.declared.targets.Targets.{Targets}
use Rattle.dict_source.specs.Facts.{Fact, Stated, writable_list, list_of, item_of}
use Rattle.dict_source.specs.Dictionary.{Dictionary as Tree}
use Rattle.dict_source.specs.Finding.{fact_at}
use Rattle.dict_source.specs.Mentions.{condition_base}
use Rattle.dict_source.specs.Targets.{find_global, find_member, first_target, item_base, item_base_at, list_base, list_base_at, targets}
use Rattle.node_types.specs.FactTyping.{count_type, field_sum_type, known, last_target, path_type, size_type, target_type}
use Rattle.node_types.specs.StatedTypes.{base_number, stated_type, type_at, type_stated}
use Rattle.three_state.specs.declared.res.Res.{Res}
use Rattle.three_state.specs.declared.res.Res.TheVariants.{Complete, Placeholder, Incomplete, Fault}
use Rattle.three_state.specs.Results.{count_of}
use Rattle.evaluation.specs.Reads.{collection_size, complete_test, field_at, sum_over, through_item}
use Rattle.evaluation.specs.Typed.{Domains, IsResOfType, IsTypedAt}
use Rattle.evaluation.proofs.TypedLaws.{count-typed, down-type, size-typed, sum-typed}
use Rattle.answers.specs.Answered.{Answered}
use Rattle.dict_meaning.specs.Fits.{domains}
use Rattle.dict_meaning.specs.Dependencies.{EvalPosition, collection, dependency, read_by, read_result, source_env, source_result}
use Rattle.evaluation.specs.Results.{Results, result_at, slot}
use Rattle.dict_meaning.proofs.ConstantTypes.{constant_typed}
use Rattle.dict_meaning.proofs.PlacedReads.{placed_types, suited}
use Rattle.dict_meaning.proofs.TableTypes.{tables_typed}

-- each result is of its fact's type
abbrev pub AreTypedResults : Tree → Answered → Results → Type 0
AreTypedResults d a results = (s : Slot) (r : Res) → results s ≡ Some r → (t : FactType) → type_at d s.fact ≡ Some t → IsResOfType (domains d a) r t

-- the type of a target
abbrev pub type_of_target : Tree → Option ℕ → Option FactType
type_of_target d o = option_and_then (type_at d) o

-- ---- one result

or_incomplete : (dom : Domains) (o : Option Res) (t : FactType) → ((r : Res) → o ≡ Some r → IsResOfType dom r t) → IsResOfType dom (unwrap_or o Incomplete) t
or_incomplete dom None t h = tt
or_incomplete dom (Some r) t h = h r refl

pub result_typed : (d : Tree) (a : Answered) (results : Results) → AreTypedResults d a results → (o : Option ℕ) (m : ℕ) (t : FactType) → type_of_target d o ≡ Some t → IsResOfType (domains d a) (result_at results o m) t
result_typed d a results h None m t e = tt
result_typed d a results h (Some n) m t e = or_incomplete (domains d a) (results (slot n m)) t (λ r k. h (slot n m) r k t e)

-- ---- through an item

field_typed : (dom : Domains) (field : ℕ → Res) (v : Value) (t : FactType) → ((m : ℕ) → IsResOfType dom (field m) t) → IsResOfType dom (field_at field v) t
field_typed dom field (Item m) t h = h m
field_typed dom field _ t h = tt

-- where the field has the type at every member, so has what is read through an item, whatever that is
item_typed : (dom : Domains) (item : Res) (field : ℕ → Res) (t : FactType) → ((m : ℕ) → IsResOfType dom (field m) t) → IsResOfType dom (through_item item field) t
item_typed dom (Complete v) field t h = field_typed dom field v t h
item_typed dom (Placeholder v) field t h = down-type dom (field_at field v) t (field_typed dom field v t h)
item_typed dom Incomplete field t h = tt
item_typed dom (Fault fault) field t h = tt

-- ---- the types of targets

from_target : (d : Tree) (o : Option ℕ) (t : FactType) → target_type d Dependency o ≡ Some t → type_of_target d o ≡ Some t
from_target d None t e = absurd cc
from_target d (Some n) t e = e

-- a fact with a base of a list is of that Collection type
list_fact : (d : Tree) (o : Option Fact) (b : List ℕ) → option_and_then (λ (f : Fact). list_base f.path f.stated) o ≡ Some b → option_and_then (stated_type d) o ≡ Some (types.Collection (base_number d (Some b)))
list_fact d None b e = absurd cc
list_fact d (Some f) b e = by f.stated e
  where
    by : (stated : Stated) → list_base f.path stated ≡ Some b → type_stated d f.path stated ≡ Some (types.Collection (base_number d (Some b)))
    by writable_list k = ap (λ (o : Option (List ℕ)). Some (types.Collection (base_number d o))) k
    by (list_of u) k = ap (λ (o : Option (List ℕ)). Some (types.Collection (base_number d o))) k
    by _ k = absurd cc

pub list_target : (d : Tree) (o : Option ℕ) (b : List ℕ) → option_and_then (list_base_at d) o ≡ Some b → type_of_target d o ≡ Some (types.Collection (base_number d (Some b)))
list_target d None b e = absurd cc
list_target d (Some n) b e = list_fact d (fact_at d.facts n) b e

-- likewise of an item
item_fact : (d : Tree) (o : Option Fact) (b : List ℕ) → option_and_then (λ (f : Fact). item_base f.stated) o ≡ Some b → option_and_then (stated_type d) o ≡ Some (types.Item (base_number d (Some b)))
item_fact d None b e = absurd cc
item_fact d (Some f) b e = by f.stated e
  where
    by : (stated : Stated) → item_base stated ≡ Some b → type_stated d f.path stated ≡ Some (types.Item (base_number d (Some b)))
    by (item_of u) k = ap (λ (o : Option (List ℕ)). Some (types.Item (base_number d o))) k
    by _ k = absurd cc

pub item_target : (d : Tree) (o : Option ℕ) (b : List ℕ) → option_and_then (item_base_at d) o ≡ Some b → type_of_target d o ≡ Some (types.Item (base_number d (Some b)))
item_target d None b e = absurd cc
item_target d (Some n) b e = item_fact d (fact_at d.facts n) b e

pub known_is : (n c : ℕ) → known n ≡ Some c → n ≡ c
known_is n c e = by (n == 0) e
  where
    by : (b : Bool) → (if b then None else Some n) ≡ Some c → n ≡ c
    by true h = absurd cc
    by false h = cc

base_by : (d : Tree) (o : Option ℕ) (b : Option (List ℕ)) → option_and_then (list_base_at d) o ≡ b → (c : ℕ) → known (unwrap_or (option_and_then (find_global d) b) 0) ≡ Some c → type_of_target d o ≡ Some (types.Collection c)
base_by d o None e c k = absurd cc
base_by d o (Some b) e c k = list_target d o b e ∙ ap (λ (n : ℕ). Some (types.Collection n)) (known_is (base_number d (Some b)) c k)

-- ---- a collection

pub source_typed : (d : Tree) (a : Answered) (results : Results) → AreTypedResults d a results → (fact : ℕ) (at : EvalPosition) (path : Option UsePath) (c : ℕ) → known (condition_base d fact at.base path) ≡ Some c → IsResOfType (domains d a) (source_result d results fact at path) (types.Collection c)
source_typed d a results h fact at None c e = tt
source_typed d a results h fact at (Some path) c e =
    let first = first_target d fact at.base path in
    result_typed d a results h first 0 (types.Collection c) (base_by d first (option_and_then (list_base_at d) first) refl c e)

-- ---- the reads

dependency_typed : (d : Tree) (a : Answered) (results : Results) → AreTypedResults d a results → (ts : Targets) (at : EvalPosition) (path : UsePath) (t : FactType) → target_type d Dependency (last_target path ts) ≡ Some t → IsResOfType (domains d a) (dependency results ts at path) t
dependency_typed d a results h ts at (Global n) t e = result_typed d a results h ts.first 0 t (from_target d ts.first t e)
dependency_typed d a results h ts at (Sibling n) t e = result_typed d a results h ts.first at.own t (from_target d ts.first t e)
dependency_typed d a results h ts at (Inner n) t e = result_typed d a results h ts.first at.inner t (from_target d ts.first t e)
dependency_typed d a results h ts at (Each n m) t e = tt
dependency_typed d a results h ts at (Through n m) t e =
    item_typed (domains d a) (result_at results ts.first 0) (result_at results ts.second) t (λ k. result_typed d a results h ts.second k t (from_target d ts.second t e))
dependency_typed d a results h ts at (SiblingThrough n m) t e =
    item_typed (domains d a) (result_at results ts.first at.own) (result_at results ts.second) t (λ k. result_typed d a results h ts.second k t (from_target d ts.second t e))

test_typed : (d : Tree) (a : Answered) (r : Res) (o : Option ℕ) (t : FactType) → target_type d IsComplete o ≡ Some t → IsResOfType (domains d a) (complete_test r) t
test_typed d a r None t e = absurd cc
test_typed d a r (Some n) t e = let same : types.Boolean ≡ t = cc in subst (IsResOfType (domains d a) (complete_test r)) same tt

size_by : (dom : Domains) (r : Res) (u : Option FactType) → ((c : ℕ) → u ≡ Some (types.Collection c) → IsResOfType dom r (types.Collection c)) → (t : FactType) → option_and_then size_type u ≡ Some t → IsResOfType dom (collection_size r) t
size_by dom r None h t e = absurd cc
size_by dom r (Some (types.Collection c)) h t e = let same : types.Int ≡ t = cc in subst (IsResOfType dom (collection_size r)) same (size-typed dom r c (h c refl))
size_by dom r (Some _) h t e = absurd cc

size_typed : (d : Tree) (a : Answered) (results : Results) → AreTypedResults d a results → (o : Option ℕ) (t : FactType) → target_type d CollectionSize o ≡ Some t → IsResOfType (domains d a) (collection_size (result_at results o 0)) t
size_typed d a results h None t e = absurd cc
size_typed d a results h (Some n) t e = size_by (domains d a) (result_at results (Some n) 0) (type_at d n) (λ c k. result_typed d a results h (Some n) 0 (types.Collection c) k) t e

sum_by : (dom : Domains) (source : Res) (field : ℕ → Res) (u : Option FactType) (t : FactType) → option_and_then field_sum_type u ≡ Some t → IsResOfType dom (sum_over (unwrap_or u types.Int) source field) t
sum_by dom source field None t e = absurd cc
sum_by dom source field (Some types.Int) t e = let same : types.Int ≡ t = cc in subst (IsResOfType dom (sum_over types.Int source field)) same (sum-typed dom types.Int source field tt)
sum_by dom source field (Some types.Dollar) t e = let same : types.Dollar ≡ t = cc in subst (IsResOfType dom (sum_over types.Dollar source field)) same (sum-typed dom types.Dollar source field tt)
sum_by dom source field (Some _) t e = absurd cc

sum_typed : (d : Tree) (a : Answered) (source : Res) (field : ℕ → Res) (o : Option ℕ) (t : FactType) → target_type d CollectionSum o ≡ Some t → IsResOfType (domains d a) (sum_over (unwrap_or (type_of_target d o) types.Int) source field) t
sum_typed d a source field None t e = absurd cc
sum_typed d a source field (Some n) t e = sum_by (domains d a) source field (type_at d n) t e

count_is : (u : Option FactType) (t : FactType) → option_and_then count_type u ≡ Some t → types.Int ≡ t
count_is None t e = absurd cc
count_is (Some types.Boolean) t e = cc
count_is (Some _) t e = absurd cc

-- a field is found through the base of a list alone
count_by : (d : Tree) (a : Answered) (results : Results) → AreTypedResults d a results → (m : List ℕ) (first : Option ℕ) (b : Option (List ℕ)) → option_and_then (list_base_at d) first ≡ b → (field : ℕ → Res) (t : FactType) → target_type d Count (find_member d m b) ≡ Some t → IsResOfType (domains d a) (count_of (result_at results first 0) field) t
count_by d a results h m first None e field t k = absurd cc
count_by d a results h m first (Some b) e field t k =
    let c = base_number d (Some b) in
    subst (IsResOfType (domains d a) (count_of (result_at results first 0) field)) (int_of (find_member d m (Some b)) k)
    (count-typed (domains d a) (result_at results first 0) field c (result_typed d a results h first 0 (types.Collection c) (list_target d first b e)))
  where
    int_of : (o : Option ℕ) → target_type d Count o ≡ Some t → types.Int ≡ t
    int_of None l = absurd cc
    int_of (Some n) l = count_is (type_at d n) t l

-- ---- any read by a path that suits

path_typed : (d : Tree) (a : Answered) (results : Results) → AreTypedResults d a results → (fact : ℕ) (at : EvalPosition) (op : ReadOp) (path : UsePath) (t : FactType) → suited op (Some path) (path_type d fact at.base op (Some path)) ≡ Some t → IsResOfType (domains d a) (read_by op d results (targets d fact at.base path) at path) t
path_typed d a results h fact at Dependency path t e = dependency_typed d a results h (targets d fact at.base path) at path t e
path_typed d a results h fact at IsComplete path t e =
    test_typed d a (dependency results (targets d fact at.base path) at path) (last_target path (targets d fact at.base path)) t e
path_typed d a results h fact at CollectionSize (Global n) t e = size_typed d a results h (find_global d n) t e
path_typed d a results h fact at CollectionSum (Each n m) t e =
    let ts = targets d fact at.base (Each n m) in
    sum_typed d a (collection results ts) (result_at results ts.second) ts.second t e
path_typed d a results h fact at Count (Each n m) t e =
    let first = find_global d n in
    let base = option_and_then (list_base_at d) first in
    count_by d a results h m first base refl (result_at results (find_member d m base)) t e
path_typed d a results h fact at _ _ t e = absurd cc

pub read_typed : (d : Tree) (a : Answered) (results : Results) → AreTypedResults d a results → (fact : ℕ) (at : EvalPosition) (op : ReadOp) (path : Option UsePath) (t : FactType) → suited op path (path_type d fact at.base op path) ≡ Some t → IsResOfType (domains d a) (read_result d results fact at op path) t
read_typed d a results h fact at op None t e = absurd cc
read_typed d a results h fact at op (Some path) t e = path_typed d a results h fact at op path t e

-- ---- where an expression of a fact stands

pub is_typed_at : (d : Tree) (a : Answered) (results : Results) → AreTypedResults d a results → (fact : ℕ) (at : EvalPosition) → IsTypedAt (domains d a) (placed_types d fact) (source_env d results fact) at.base at
is_typed_at d a results h fact at = record {
  constant = constant_typed d a;
  reads = λ r t e. read_typed d a results h fact at r.0 r.1.path t e;
  source = λ u c e. source_typed d a results h fact at u.path c e;
  tables = tables_typed (domains d a);
}
