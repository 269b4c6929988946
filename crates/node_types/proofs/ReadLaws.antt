-- What a node reads has its type by the rules of reads.
use Rattle.std.proofs.Common.{◌≡◌, ◌↔◌, ℕ, Option, Some, None, refl}
use Rattle.fact_paths.specs.declared.use_path.UsePath.{UsePath}
use Rattle.fact_values.specs.declared.fact_type.FactType.{FactType}
use Rattle.fact_values.specs.declared.fact_type.FactType.TheVariants.{Boolean, Int, Dollar, Collection}
use Rattle.dict_source.specs.declared.operators.ReadOp.{ReadOp}
use Rattle.dict_source.specs.declared.operators.ReadOp.TheVariants.{Dependency, IsComplete, CollectionSize, CollectionSum, Count}
use Rattle.dict_source.specs.Dictionary.{Dictionary}
use Rattle.dict_source.specs.Targets.{targets}
use Rattle.dict_source.specs.Typing.{ReadType}
use Rattle.node_types.specs.FactTyping.{PathReadsAs, ReadsAs, last_target, path_type, read_type, target_type}
use Rattle.node_types.specs.StatedTypes.{type_at}

one_read : (op : ReadOp) (u t : FactType) → read_type op (Some u) ≡ Some t → ReadType op u t
one_read Dependency u t e = cc
one_read IsComplete u t e = cc
one_read CollectionSize (Collection c) t e = (tt, cc)
one_read CollectionSize _ t e = absurd cc
one_read CollectionSum Int t e = (tt, cc)
one_read CollectionSum Dollar t e = (tt, cc)
one_read CollectionSum _ t e = absurd cc
one_read Count Boolean t e = (refl, cc)
one_read Count _ t e = absurd cc

read_at : (op : ReadOp) (u t : FactType) → ReadType op u t → read_type op (Some u) ≡ Some t
read_at Dependency u t h = rw h refl
read_at IsComplete u t h = rw h refl
read_at CollectionSize (Collection c) t h = rw h.1 refl
read_at CollectionSize _ t h = absurd h.0
read_at CollectionSum Int t h = rw h.1 refl
read_at CollectionSum Dollar t h = rw h.1 refl
read_at CollectionSum _ t h = absurd h.0
read_at Count u t h = rw (h.0, h.1) refl

has_read : (op : ReadOp) (o : Option FactType) (t : FactType) → read_type op o ≡ Some t → ReadsAs op o t
has_read IsComplete o t e = cc
has_read Dependency (Some u) t e = (u, refl, one_read Dependency u t e)
has_read CollectionSize (Some u) t e = (u, refl, one_read CollectionSize u t e)
has_read CollectionSum (Some u) t e = (u, refl, one_read CollectionSum u t e)
has_read Count (Some u) t e = (u, refl, one_read Count u t e)
has_read _ None t e = absurd cc

is_read : (op : ReadOp) (o : Option FactType) (t : FactType) → ReadsAs op o t → read_type op o ≡ Some t
is_read IsComplete o t h = rw h refl
is_read Dependency o t h = rw h.1 (read_at Dependency h.0 t h.2)
is_read CollectionSize o t h = rw h.1 (read_at CollectionSize h.0 t h.2)
is_read CollectionSum o t h = rw h.1 (read_at CollectionSum h.0 t h.2)
is_read Count o t h = rw h.1 (read_at Count h.0 t h.2)

has_path : (d : Dictionary) (fact base : ℕ) (op : ReadOp) (path : Option UsePath) (t : FactType) → path_type d fact base op path ≡ Some t → PathReadsAs d fact base op path t
has_path d fact base op None t e = absurd cc
has_path d fact base op (Some p) t e = by (last_target p (targets d fact base p)) refl e
  where
    by : (o : Option ℕ) → last_target p (targets d fact base p) ≡ o → target_type d op o ≡ Some t → PathReadsAs d fact base op (Some p) t
    by None k h = absurd cc
    by (Some n) k h = (p, n, refl, k, has_read op (type_at d n) t h)

pub reads_are_by_rule : (d : Dictionary) (fact base : ℕ) (op : ReadOp) (path : Option UsePath) (t : FactType) → (path_type d fact base op path ≡ Some t) ↔ PathReadsAs d fact base op path t
reads_are_by_rule d fact base op path t = (has_path d fact base op path t, (λ h. rw (h.2, h.3) (is_read op (type_at d h.1) t h.4)))
