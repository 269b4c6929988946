-- What stands out of its place.
use Rattle.std.specs.Prelude.{◌≡◌, ◌⊎◌, ℕ, Bool, true, false, not, ◌&&◌, ◌||◌, IsTrue, List, Option, Some, None, is_some}
use Rattle.std.specs.List.{Any}
use Rattle.fact_paths.specs.declared.fact_path.FactPath.{FactPath}
use Rattle.fact_paths.specs.declared.fact_path.FactPath.TheVariants as facts
use Rattle.fact_paths.specs.declared.use_path.UsePath.{UsePath}
use Rattle.fact_paths.specs.declared.use_path.UsePath.TheVariants as uses
use Rattle.dict_source.specs.Tree.{Use}
use Rattle.dict_source.specs.Facts.{Fact}
use Rattle.dict_source.specs.Dictionary.{Dictionary}
use Rattle.dict_source.specs.Targets.{collection_at}
use Rattle.dict_rules.specs.declared.use_op.UseOp.{UseOp}
use Rattle.dict_rules.specs.Uses.{Condition, goes_through_members, UseAt, reads_each, reads_fact, fact_has_use, fact_uses}
use Rattle.dict_rules.specs.NoCollection.{is_list}

-- the fact with the number is one of the members of a collection
abbrev pub is_of_members : Dictionary → ℕ → Bool
is_of_members d n = is_some (collection_at d n)

-- where a use path may stand: with its operator, in the fact with this number, under this condition
abbrev pub is_in_place : Dictionary → ℕ → UseOp → Condition → UsePath → Bool
is_in_place d n use_op c (uses.Global m) = not (reads_each use_op)
is_in_place d n use_op c (uses.Sibling m) = reads_fact use_op && is_of_members d n
is_in_place d n use_op c (uses.Inner m) = reads_fact use_op && is_some c
is_in_place d n use_op c (uses.Each l m) = reads_each use_op
is_in_place d n use_op c (uses.Through l m) = reads_fact use_op
is_in_place d n use_op c (uses.SiblingThrough l m) = reads_fact use_op && is_of_members d n

abbrev pub is_displaced : Dictionary → ℕ → UseOp → Condition → Option UsePath → Bool
is_displaced d n use_op c None = false
is_displaced d n use_op c (Some path) = not (is_in_place d n use_op c path)

-- the path isn't in its place, or a node that goes through members stands under a condition
abbrev pub is_misplaced : Dictionary → ℕ → UseOp → Condition → Use → Bool
is_misplaced d n use_op c u = (goes_through_members use_op && is_some c) || is_displaced d n use_op c u.path

-- `/c/*/N`
abbrev pub is_member_path : Option FactPath → Bool
is_member_path None = false
is_member_path (Some (facts.Global n)) = false
is_member_path (Some (facts.Member c n)) = true

-- a use or a node is out of its place, or a fact of a collection type has the path of a member's fact
abbrev pub has_wrong_place : Dictionary → ℕ → Fact → Bool
has_wrong_place d n f = (is_list f.stated && is_member_path f.path) || fact_has_use (is_misplaced d n) d n f

-- ---- the rule in its own words

-- a node that goes through members stands under a condition, or the use's path isn't in its place
abbrev pub IsMisplaced : Dictionary → ℕ → UseAt → Type 0
IsMisplaced d n u =
    (IsTrue (goes_through_members u.use_op) × ((b : ℕ) × (u.condition ≡ Some b)))
    ⊎ ((path : UsePath) × (u.used.path ≡ Some path) × ¬ IsTrue (is_in_place d n u.use_op u.condition path))

-- a fact of a collection type is one of the members of a collection, or some use is misplaced
abbrev pub HasWrongPlace : Dictionary → ℕ → Fact → Type 0
HasWrongPlace d n f = (IsTrue (is_list f.stated) × ((c m : List ℕ) × (f.path ≡ Some (facts.Member c m)))) ⊎ Any (IsMisplaced d n) (fact_uses d n f)
