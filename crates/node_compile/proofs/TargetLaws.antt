-- What reads by a path in a typed expression has the path's targets, and they have types.
use Rattle.std.proofs.Common.{◌≡◌, ℕ, Bool, true, false, List, Option, Some, None, if◌then◌else◌, unwrap_or, refl, ap, ◌∙◌}
use Rattle.std.specs.Prelude.{option_and_then}
use Rattle.fact_paths.specs.declared.use_path.UsePath.{UsePath}
use Rattle.fact_paths.specs.declared.use_path.UsePath.TheVariants.{Global, Sibling, Inner, Each, Through, SiblingThrough}
use Rattle.fact_values.specs.declared.fact_type.FactType.{FactType}
use Rattle.fact_values.specs.declared.fact_type.FactType.TheVariants as types
use Rattle.dict_source.specs.declared.operators.ReadOp.{ReadOp}
use Rattle.dict_source.specs.declared.targets.Targets.{Targets}
use Rattle.dict_source.specs.Dictionary.{Dictionary as Tree}
use Rattle.dict_source.specs.Mentions.{condition_base}
use Rattle.dict_source.specs.Targets.{find_global, first_target, list_base_at, targets}
use Rattle.dict_source.proofs.TargetsLaws.{targets-AreTargets}
use Rattle.node_types.specs.FactTyping.{known, last_target, target_type}
use Rattle.node_types.specs.StatedTypes.{base_number, type_at}
use Rattle.dict_meaning.proofs.PlacedReads.{suited, suits}
use Rattle.dict_meaning.proofs.ReadTypes.{known_is, list_target}

-- ---- targets that are there

pub record HasOne (t : Targets) : Type 0 where
  pub item : ℕ
  pub first : t.first ≡ Some item
  pub second : t.second ≡ None

pub record HasBoth (t : Targets) : Type 0 where
  pub item : ℕ
  pub field : ℕ
  pub first : t.first ≡ Some item
  pub second : t.second ≡ Some field

-- as many as a path of this form has
abbrev pub HasTargets : UsePath → Targets → Type 0
HasTargets (Global n) t = HasOne t
HasTargets (Sibling n) t = HasOne t
HasTargets (Inner n) t = HasOne t
HasTargets (Each n m) t = HasBoth t
HasTargets (Through n m) t = HasBoth t
HasTargets (SiblingThrough n m) t = HasBoth t

module _ (d : Tree) (fact base : ℕ) where
  before : (path : UsePath) (m : ℕ) → (targets d fact base path).second ≡ Some m → HasBoth (targets d fact base path)
  before path m e = let s = ((targets-AreTargets d fact base path).second m).0 e in record { item = s.0; field = m; first = s.1; second = e }

  -- where the last target is there, so is the first
  pub last_is_there : (path : UsePath) (m : ℕ) → last_target path (targets d fact base path) ≡ Some m → HasTargets path (targets d fact base path)
  last_is_there (Global n) m e = record { item = m; first = e; second = refl }
  last_is_there (Sibling n) m e = record { item = m; first = e; second = refl }
  last_is_there (Inner n) m e = record { item = m; first = e; second = refl }
  last_is_there (Each n k) m e = before (Each n k) m e
  last_is_there (Through n k) m e = before (Through n k) m e
  last_is_there (SiblingThrough n k) m e = before (SiblingThrough n k) m e

  -- the type of a leaf that reads is that of a target
  pub target_of_type : (op : ReadOp) (o : Option ℕ) (t : FactType) → target_type d op o ≡ Some t → (m : ℕ) × (o ≡ Some m) × (target_type d op (Some m) ≡ Some t)
  target_of_type op None t e = absurd cc
  target_of_type op (Some m) t e = (m, refl, e)

-- ---- a leaf that has a type only where its path suits it

pub unsuited : (op : ReadOp) (path : Option UsePath) (t : Option FactType) (u : FactType) → suited op path t ≡ Some u → t ≡ Some u
unsuited op None t u e = e
unsuited op (Some path) t u e = by (suits op path) e
  where
    by : (b : Bool) → (if b then t else None) ≡ Some u → t ≡ Some u
    by true h = h
    by false h = absurd cc

-- ---- collections

-- a fact that lists the members of a base which is known
pub record Lists (d : Tree) (o : Option ℕ) (c : ℕ) : Type 0 where
  pub item : ℕ
  pub is_there : o ≡ Some item
  pub of_type : type_at d item ≡ Some (types.Collection c)

listed_by : (d : Tree) (n : ℕ) (b : Option (List ℕ)) → list_base_at d n ≡ b → (c : ℕ) → known (unwrap_or (option_and_then (find_global d) b) 0) ≡ Some c → type_at d n ≡ Some (types.Collection c)
listed_by d n None e c k = absurd cc
listed_by d n (Some b) e c k = list_target d (Some n) b e ∙ ap (λ (m : ℕ). Some (types.Collection m)) (known_is (base_number d (Some b)) c k)

lists_by : (d : Tree) (o : Option ℕ) (c : ℕ) → known (unwrap_or (option_and_then (find_global d) (option_and_then (list_base_at d) o)) 0) ≡ Some c → Lists d o c
lists_by d None c k = absurd cc
lists_by d (Some n) c k = record { item = n; is_there = refl; of_type = listed_by d n (list_base_at d n) refl c k }

-- where the base of a condition is known, its path names such a fact first
pub condition_lists : (d : Tree) (fact base : ℕ) (path : UsePath) (c : ℕ) → known (condition_base d fact base (Some path)) ≡ Some c → Lists d (first_target d fact base path) c
condition_lists d fact base path c k = lists_by d (first_target d fact base path) c k
