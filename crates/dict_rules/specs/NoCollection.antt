-- A path that has to name a collection or an item, and names another fact.
use Rattle.std.specs.Prelude.{◌≡◌, ◌⊎◌, ℕ, Bool, true, false, not, ◌&&◌, ◌||◌, IsTrue, List, Option, Some, None}
use Rattle.std.specs.List.{Any}
use Rattle.fact_paths.specs.declared.fact_path.FactPath.{FactPath}
use Rattle.fact_paths.specs.declared.fact_path.FactPath.TheVariants as facts
use Rattle.fact_paths.specs.declared.use_path.UsePath.{UsePath}
use Rattle.fact_paths.specs.declared.use_path.UsePath.TheVariants as uses
use Rattle.dict_source.specs.Tree.{Use}
use Rattle.dict_source.specs.Facts.{Fact, Stated, scalar, enum_of, writable_list, list_of, item_of}
use Rattle.dict_source.specs.Dictionary.{Dictionary, is_collection}
use Rattle.dict_source.specs.Finding.{fact_at}
use Rattle.dict_source.specs.Targets.{find_global, first_target}
use Rattle.dict_rules.specs.declared.use_op.UseOp.{UseOp}
use Rattle.dict_rules.specs.Uses.{Condition, base_of, UseAt, reads_collection, fact_has_use, fact_uses}

-- ---- kinds of stated types

-- a collection, written or derived
abbrev pub is_list : Stated → Bool
is_list (scalar t) = false
is_list (enum_of n) = false
is_list writable_list = true
is_list (list_of u) = true
is_list (item_of u) = false

abbrev pub is_item : Stated → Bool
is_item (scalar t) = false
is_item (enum_of n) = false
is_item writable_list = false
is_item (list_of u) = false
is_item (item_of u) = true

-- ---- writable collections by name

abbrev pub is_written_list : Option Fact → Bool
is_written_list None = false
is_written_list (Some f) = is_collection f.stated

-- `/c` is the path of a writable collection
abbrev pub names_list : Dictionary → Option ℕ → Bool
names_list d None = false
names_list d (Some t) = is_written_list (fact_at d.facts t)

-- the path is `/c/*/N`, and `/c` is no writable collection
abbrev pub lacks_own_list : Dictionary → Option FactPath → Bool
lacks_own_list d None = false
lacks_own_list d (Some (facts.Global n)) = false
lacks_own_list d (Some (facts.Member c n)) = not (names_list d (find_global d c))

-- the path in a stated type is `/c`, and `/c` is no writable collection
abbrev pub lacks_base : Dictionary → Option UsePath → Bool
lacks_base d None = false
lacks_base d (Some (uses.Global c)) = not (names_list d (find_global d c))
lacks_base d (Some (uses.Sibling n)) = false
lacks_base d (Some (uses.Inner n)) = false
lacks_base d (Some (uses.Each n m)) = false
lacks_base d (Some (uses.Through n m)) = false
lacks_base d (Some (uses.SiblingThrough n m)) = false

abbrev pub lacks_stated_list : Dictionary → Stated → Bool
lacks_stated_list d (scalar t) = false
lacks_stated_list d (enum_of n) = false
lacks_stated_list d writable_list = false
lacks_stated_list d (list_of u) = lacks_base d u.path
lacks_stated_list d (item_of u) = lacks_base d u.path

-- ---- uses

-- a fact, of a type of another kind
abbrev pub is_other : (Stated → Bool) → Option Fact → Bool
is_other kind None = false
is_other kind (Some f) = not (kind f.stated)

-- the same of the fact with a number, where there is one
abbrev pub is_other_at : (Stated → Bool) → Dictionary → Option ℕ → Bool
is_other_at kind d None = false
is_other_at kind d (Some t) = is_other kind (fact_at d.facts t)

-- `/N/M` and `../N/M`
abbrev pub goes_through_item : UsePath → Bool
goes_through_item (uses.Global n) = false
goes_through_item (uses.Sibling n) = false
goes_through_item (uses.Inner n) = false
goes_through_item (uses.Each n m) = false
goes_through_item (uses.Through n m) = true
goes_through_item (uses.SiblingThrough n m) = true

-- the first target is to be a collection or an item, and is a fact of another type
abbrev pub is_misread : Dictionary → UseOp → UsePath → Option ℕ → Bool
is_misread d use_op path first = (reads_collection use_op && is_other_at is_list d first) || (goes_through_item path && is_other_at is_item d first)

abbrev pub path_lacks_list : Dictionary → ℕ → UseOp → Condition → Option UsePath → Bool
path_lacks_list d n use_op c None = false
path_lacks_list d n use_op c (Some path) = is_misread d use_op path (first_target d n (base_of c) path)

abbrev pub use_lacks_list : Dictionary → ℕ → UseOp → Condition → Use → Bool
use_lacks_list d n use_op c u = path_lacks_list d n use_op c u.path

-- one of the four cases holds
abbrev pub lacks_collection : Dictionary → ℕ → Fact → Bool
lacks_collection d n f = lacks_own_list d f.path || (lacks_stated_list d f.stated || fact_has_use (use_lacks_list d n) d n f)

-- ---- the rule in its own words

-- `/c` is the path of a writable collection
abbrev pub IsWrittenList : Dictionary → List ℕ → Type 0
IsWrittenList d c = (t : ℕ) × (g : Fact) × (find_global d c ≡ Some t) × (fact_at d.facts t ≡ Some g) × (g.stated ≡ writable_list)

-- the fact is one of the members of `/c`, which is no writable collection
abbrev pub LacksOwnList : Dictionary → Option FactPath → Type 0
LacksOwnList d path = (c n : List ℕ) × (path ≡ Some (facts.Member c n)) × ¬ IsWrittenList d c

-- the stated type names `/c`, which is no writable collection
abbrev pub LacksStatedList : Dictionary → Stated → Type 0
LacksStatedList d stated = (u : Use) × (c : List ℕ) × ((stated ≡ list_of u) ⊎ (stated ≡ item_of u)) × (u.path ≡ Some (uses.Global c)) × ¬ IsWrittenList d c

-- the first target of a use, where it is a fact
abbrev pub IsFirstFact : Dictionary → ℕ → UseAt → UsePath → Fact → Type 0
IsFirstFact d n u path g = (u.used.path ≡ Some path) × (t : ℕ) × (first_target d n (base_of u.condition) path ≡ Some t) × (fact_at d.facts t ≡ Some g)

-- a node that reads a collection reads a fact of another type, or a path that goes through an item goes through one
abbrev pub IsMisread : Dictionary → ℕ → UseAt → Type 0
IsMisread d n u = (path : UsePath) × (g : Fact) × IsFirstFact d n u path g × ((IsTrue (reads_collection u.use_op) × ¬ IsTrue (is_list g.stated)) ⊎ (IsTrue (goes_through_item path) × ¬ IsTrue (is_item g.stated)))

abbrev pub HasNoCollection : Dictionary → ℕ → Fact → Type 0
HasNoCollection d n f = LacksOwnList d f.path ⊎ (LacksStatedList d f.stated ⊎ Any (IsMisread d n) (fact_uses d n f))
