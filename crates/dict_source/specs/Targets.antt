-- Which facts a use path names.
use Rattle.std.specs.Prelude.{◌≡◌, ◌↔◌, ℕ, List, Option, Some, None, option_and_then}
use Rattle.fact_paths.specs.declared.fact_path.FactPath.{FactPath}
use Rattle.fact_paths.specs.declared.fact_path.FactPath.TheVariants as facts
use Rattle.fact_paths.specs.declared.use_path.UsePath.{UsePath}
use Rattle.fact_paths.specs.declared.use_path.UsePath.TheVariants as uses
use Rattle.dict_source.specs.Facts.{Stated, scalar, enum_of, writable_list, list_of, item_of}
use Rattle.dict_source.specs.Dictionary.{Dictionary}
use Rattle.dict_source.specs.Finding.{fact_at, find_path, IsFirst}
use Rattle.dict_source.specs.declared.targets.Targets.{Targets}

-- ---- collections by name

-- `c`, of a path `/c/*/N`
abbrev pub member_collection : FactPath → Option (List ℕ)
member_collection (facts.Global n) = None
member_collection (facts.Member c n) = Some c

-- `b`, of a path `/b`
abbrev pub global_name : FactPath → Option (List ℕ)
global_name (facts.Global b) = Some b
global_name (facts.Member c n) = None

-- the same of a path in a type
abbrev pub base_name : UsePath → Option (List ℕ)
base_name (uses.Global b) = Some b
base_name (uses.Sibling n) = None
base_name (uses.Inner n) = None
base_name (uses.Each n m) = None
base_name (uses.Through n m) = None
base_name (uses.SiblingThrough n m) = None

-- `b`, where the type is Collection(b): a writable list's base is its own fact
abbrev pub list_base : Option FactPath → Stated → Option (List ℕ)
list_base path (scalar t) = None
list_base path (enum_of n) = None
list_base path writable_list = option_and_then global_name path
list_base path (list_of u) = option_and_then base_name u.path
list_base path (item_of u) = None

-- `b`, where the type is Item(b)
abbrev pub item_base : Stated → Option (List ℕ)
item_base (scalar t) = None
item_base (enum_of n) = None
item_base writable_list = None
item_base (list_of u) = None
item_base (item_of u) = option_and_then base_name u.path

-- ---- the same of the fact with a number; no fact has the number 0

-- `c`, where it is a fact of the members of `/c`
abbrev pub collection_at : Dictionary → ℕ → Option (List ℕ)
collection_at d n = option_and_then (λ f. option_and_then member_collection f.path) (fact_at d.facts n)

-- `b`, where it is the fact `/b`
abbrev pub global_at : Dictionary → ℕ → Option (List ℕ)
global_at d n = option_and_then (λ f. option_and_then global_name f.path) (fact_at d.facts n)

-- `b`, where its type is Collection(b), and where it is Item(b)
abbrev pub list_base_at : Dictionary → ℕ → Option (List ℕ)
list_base_at d n = option_and_then (λ f. list_base f.path f.stated) (fact_at d.facts n)

abbrev pub item_base_at : Dictionary → ℕ → Option (List ℕ)
item_base_at d n = option_and_then (λ f. item_base f.stated) (fact_at d.facts n)

-- ---- the targets of a use path in a fact, under a condition over a base; outside conditions the base is 0

-- the first target has this number
abbrev pub IsFirstTarget : Dictionary → ℕ → ℕ → UsePath → ℕ → Type 0
IsFirstTarget d fact base (uses.Global n) t = IsFirst d.facts (facts.Global n) t
IsFirstTarget d fact base (uses.Sibling n) t = (c : List ℕ) × (collection_at d fact ≡ Some c) × IsFirst d.facts (facts.Member c n) t
IsFirstTarget d fact base (uses.Inner n) t = (b : List ℕ) × (global_at d base ≡ Some b) × IsFirst d.facts (facts.Member b n) t
IsFirstTarget d fact base (uses.Each n m) t = IsFirst d.facts (facts.Global n) t
IsFirstTarget d fact base (uses.Through n m) t = IsFirst d.facts (facts.Global n) t
IsFirstTarget d fact base (uses.SiblingThrough n m) t = (c : List ℕ) × (collection_at d fact ≡ Some c) × IsFirst d.facts (facts.Member c n) t

-- `/b/*/M` has this number
abbrev pub IsMember : Dictionary → Option (List ℕ) → List ℕ → ℕ → Type 0
IsMember d base m t = (b : List ℕ) × (base ≡ Some b) × IsFirst d.facts (facts.Member b m) t

-- where the first target has the number f, the second has this one
abbrev pub IsSecondTarget : Dictionary → ℕ → UsePath → ℕ → Type 0
IsSecondTarget d f (uses.Global n) t = ⊥
IsSecondTarget d f (uses.Sibling n) t = ⊥
IsSecondTarget d f (uses.Inner n) t = ⊥
IsSecondTarget d f (uses.Each n m) t = IsMember d (list_base_at d f) m t
IsSecondTarget d f (uses.Through n m) t = IsMember d (item_base_at d f) m t
IsSecondTarget d f (uses.SiblingThrough n m) t = IsMember d (item_base_at d f) m t

-- the targets are those, and None stands where there is none
pub record AreTargets (d : Dictionary) (fact base : ℕ) (path : UsePath) (t : Targets) : Type 0 where
  pub first : (n : ℕ) → (t.first ≡ Some n) ↔ IsFirstTarget d fact base path n
  pub second : (n : ℕ) → (t.second ≡ Some n) ↔ ((f : ℕ) × (t.first ≡ Some f) × IsSecondTarget d f path n)

-- ---- the same as a function

-- the fact `/N`
abbrev pub find_global : Dictionary → List ℕ → Option ℕ
find_global d n = find_path d.facts (facts.Global n)

-- the fact `/b/*/N`, where a base is known
abbrev pub find_member : Dictionary → List ℕ → Option (List ℕ) → Option ℕ
find_member d n base = option_and_then (λ b. find_path d.facts (facts.Member b n)) base

abbrev pub first_target : Dictionary → ℕ → ℕ → UsePath → Option ℕ
first_target d fact base (uses.Global n) = find_global d n
first_target d fact base (uses.Sibling n) = find_member d n (collection_at d fact)
first_target d fact base (uses.Inner n) = find_member d n (global_at d base)
first_target d fact base (uses.Each n m) = find_global d n
first_target d fact base (uses.Through n m) = find_global d n
first_target d fact base (uses.SiblingThrough n m) = find_member d n (collection_at d fact)

abbrev pub second_target : Dictionary → Option ℕ → UsePath → Option ℕ
second_target d first (uses.Global n) = None
second_target d first (uses.Sibling n) = None
second_target d first (uses.Inner n) = None
second_target d first (uses.Each n m) = find_member d m (option_and_then (list_base_at d) first)
second_target d first (uses.Through n m) = find_member d m (option_and_then (item_base_at d) first)
second_target d first (uses.SiblingThrough n m) = find_member d m (option_and_then (item_base_at d) first)

abbrev pub targets : Dictionary → ℕ → ℕ → UsePath → Targets
targets d fact base path = record {
  first = first_target d fact base path;
  second = second_target d (first_target d fact base path) path;
}
