-- What a node reads by the numbers of facts is what its expression reads by their paths.
use Rattle.std.proofs.Common.{◌≡◌, ℕ, Option, Some, None, refl, ap, ◌∙◌}
use Rattle.fact_paths.specs.declared.use_path.UsePath.{UsePath}
use Rattle.fact_paths.specs.declared.use_path.UsePath.TheVariants.{Global, Sibling, Inner, Each, Through, SiblingThrough}
use Rattle.fact_values.specs.declared.fact_type.FactType.{FactType}
use Rattle.fact_values.specs.declared.fact_type.FactType.TheVariants as types
use Rattle.dict_source.specs.declared.operators.ReadOp.{ReadOp}
use Rattle.dict_source.specs.declared.operators.ReadOp.TheVariants.{Dependency, IsComplete, CollectionSize, CollectionSum, Count}
use Rattle.dict_source.specs.declared.targets.Targets.{Targets}
use Rattle.dict_source.specs.Dictionary.{Dictionary as Tree}
use Rattle.dict_source.specs.Mentions.{condition_base}
use Rattle.dict_source.specs.Targets.{targets}
use Rattle.node_types.specs.FactTyping.{known, last_target, path_type}
use Rattle.three_state.specs.Results.{count_of}
use Rattle.evaluation.specs.Reads.{collection_size, complete_test, sum_over}
use Rattle.evaluation.proofs.ResolvingLaws.{everywhere}
use Rattle.dict_meaning.specs.Dependencies as paths
use Rattle.dict_meaning.specs.Dependencies.{EvalPosition, field_type}
use Rattle.evaluation.specs.Results.{Results, result_at}
use Rattle.node_eval.specs.Dependencies as nodes
use Rattle.node_eval.specs.declared.node.ResolvedPath.{ResolvedPath}
use Rattle.node_eval.specs.declared.node_position.NodePosition.{NodePosition}
use Rattle.node_compile.specs.Compiling.{read_of, reading, resolved_path, resolved_use, sum_read}
use Rattle.node_compile.proofs.TargetLaws.{HasTargets, condition_lists, last_is_there, target_of_type}

-- the place of an expression that stands under a condition over a base
abbrev pub standing : ℕ → NodePosition → EvalPosition
standing base at = record { base = base; own = at.own; inner = at.inner }

module _ (d : Tree) (results : Results) (base : ℕ) (at : NodePosition) where
  -- ---- by a path with these targets

  dependency_same : (path : UsePath) (t : Targets) → HasTargets path t → nodes.dependency results at (resolved_path path t) ≡ paths.dependency results t (standing base at) path
  dependency_same (Global n) t h = rw h.first refl
  dependency_same (Sibling n) t h = rw h.first refl
  dependency_same (Inner n) t h = rw h.first refl
  dependency_same (Each n m) t h = refl
  dependency_same (Through n m) t h = rw (h.first, h.second) refl
  dependency_same (SiblingThrough n m) t h = rw (h.first, h.second) refl

  collection_same : (path : UsePath) (t : Targets) (n : ℕ) → t.first ≡ Some n → nodes.collection results (resolved_path path t) ≡ paths.collection results t
  collection_same (Global n) t f e = rw e refl
  collection_same (Sibling n) t f e = rw e refl
  collection_same (Inner n) t f e = rw e refl
  collection_same (Each n m) t f e = rw e refl
  collection_same (Through n m) t f e = rw e refl
  collection_same (SiblingThrough n m) t f e = rw e refl

  first_there : (path : UsePath) (t : Targets) → HasTargets path t → (n : ℕ) × (t.first ≡ Some n)
  first_there (Global n) t h = (h.item, h.first)
  first_there (Sibling n) t h = (h.item, h.first)
  first_there (Inner n) t h = (h.item, h.first)
  first_there (Each n m) t h = (h.item, h.first)
  first_there (Through n m) t h = (h.item, h.first)
  first_there (SiblingThrough n m) t h = (h.item, h.first)

  list_same : (path : UsePath) (t : Targets) → HasTargets path t → nodes.collection results (resolved_path path t) ≡ paths.collection results t
  list_same path t h = let f = first_there path t h in collection_same path t f.0 f.1

  field_same : (path : UsePath) (t : Targets) → HasTargets path t → (m : ℕ) → nodes.field results (resolved_path path t) m ≡ result_at results t.second m
  field_same (Global n) t h m = rw h.second refl
  field_same (Sibling n) t h m = rw h.second refl
  field_same (Inner n) t h m = rw h.second refl
  field_same (Each n k) t h m = rw h.second refl
  field_same (Through n k) t h m = rw h.second refl
  field_same (SiblingThrough n k) t h m = rw h.second refl

  -- a sum, by the type of its fields
  sum_same : (kind : FactType) (r : ResolvedPath) → nodes.read_result results at (sum_read kind) r ≡ sum_over kind (nodes.collection results r) (nodes.field results r)
  sum_same types.Dollar r = refl
  sum_same types.Boolean r = refl
  sum_same types.Int r = refl
  sum_same types.Rational r = refl
  sum_same types.Day r = refl
  sum_same types.Text r = refl
  sum_same (types.Enum n) r = refl
  sum_same (types.Collection c) r = refl
  sum_same (types.Item c) r = refl

  read_same : (op : ReadOp) (path : UsePath) (t : Targets) → HasTargets path t → nodes.read_result results at (read_of d t op) (resolved_path path t) ≡ paths.read_by op d results t (standing base at) path
  read_same Dependency path t h = dependency_same path t h
  read_same IsComplete path t h = ap complete_test (dependency_same path t h)
  read_same CollectionSize path t h = ap collection_size (list_same path t h)
  read_same CollectionSum path t h =
      let kind = field_type d t in
      sum_same kind (resolved_path path t)
      ∙ ap (λ s. sum_over kind s (nodes.field results (resolved_path path t))) (list_same path t h)
      ∙ ap (sum_over kind (paths.collection results t)) (everywhere (field_same path t h))
  read_same Count path t h =
      ap (λ s. count_of s (nodes.field results (resolved_path path t))) (list_same path t h)
      ∙ ap (count_of (paths.collection results t)) (everywhere (field_same path t h))

  -- ---- in a fact

  -- what a leaf reads that has a type
  pub read_by_path : (fact : ℕ) (op : ReadOp) (path : Option UsePath) (u : FactType) → path_type d fact base op path ≡ Some u
      → nodes.read_result results at (reading d fact base op path).0 (reading d fact base op path).1 ≡ paths.read_result d results fact (standing base at) op path
  read_by_path fact op None u e = absurd cc
  read_by_path fact op (Some p) u e =
      let t = targets d fact base p in
      let last = target_of_type d fact base op (last_target p t) u e in
      read_same op p t (last_is_there d fact base p last.0 last.1)

  -- the collection of a Filter or a Find, whose base is known
  pub list_by_path : (fact : ℕ) (path : Option UsePath) (c : ℕ) → known (condition_base d fact base path) ≡ Some c
      → nodes.collection results (resolved_use d fact base path)
      ≡ paths.source_result d results fact (standing base at) path
  list_by_path fact None c e = absurd cc
  list_by_path fact (Some p) c e =
      let first = condition_lists d fact base p c e in
      collection_same p (targets d fact base p) first.item first.is_there
