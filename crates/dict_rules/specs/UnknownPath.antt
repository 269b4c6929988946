-- A use path in its place that names no fact.
use Rattle.std.specs.Prelude.{◌≡◌, ◌⊎◌, ℕ, Bool, true, false, not, ◌&&◌, ◌||◌, ◌==◌, IsTrue, Option, Some, None, is_some, is_none, option_and_then}
use Rattle.std.specs.List.{Any}
use Rattle.fact_paths.specs.declared.use_path.UsePath.{UsePath}
use Rattle.fact_paths.specs.declared.use_path.UsePath.TheVariants as uses
use Rattle.dict_source.specs.Tree.{Use}
use Rattle.dict_source.specs.Facts.{Fact}
use Rattle.dict_source.specs.Dictionary.{Dictionary}
use Rattle.dict_source.specs.Targets.{list_base_at, item_base_at, targets}
use Rattle.dict_source.specs.declared.targets.Targets.{Targets}
use Rattle.dict_rules.specs.declared.use_op.UseOp.{UseOp}
use Rattle.dict_rules.specs.Uses.{Condition, UseAt, base_of, fact_has_use, fact_uses}
use Rattle.dict_rules.specs.WrongPlace.{is_in_place}

-- the first target is judged, save that of `N` under a condition whose base isn't known
abbrev pub is_judged : UsePath → Condition → Bool
is_judged (uses.Global n) c = true
is_judged (uses.Sibling n) c = true
is_judged (uses.Inner n) c = not (base_of c == 0)
is_judged (uses.Each n m) c = true
is_judged (uses.Through n m) c = true
is_judged (uses.SiblingThrough n m) c = true

-- a second target is judged where the first one's base is known
abbrev pub is_second_judged : Dictionary → UsePath → Option ℕ → Bool
is_second_judged d (uses.Global n) first = false
is_second_judged d (uses.Sibling n) first = false
is_second_judged d (uses.Inner n) first = false
is_second_judged d (uses.Each n m) first = is_some (option_and_then (list_base_at d) first)
is_second_judged d (uses.Through n m) first = is_some (option_and_then (item_base_at d) first)
is_second_judged d (uses.SiblingThrough n m) first = is_some (option_and_then (item_base_at d) first)

-- a target that is judged is no fact
abbrev pub lacks_target : Dictionary → UsePath → Condition → Targets → Bool
lacks_target d path c t = (is_judged path c && is_none t.first) || (is_second_judged d path t.first && is_none t.second)

abbrev pub is_unknown_path : Dictionary → ℕ → UseOp → Condition → Option UsePath → Bool
is_unknown_path d n use_op c None = false
is_unknown_path d n use_op c (Some path) = is_in_place d n use_op c path && lacks_target d path c (targets d n (base_of c) path)

abbrev pub is_unknown_use : Dictionary → ℕ → UseOp → Condition → Use → Bool
is_unknown_use d n use_op c u = is_unknown_path d n use_op c u.path

-- a use path in its place has a target that is no fact
abbrev pub has_unknown_path : Dictionary → ℕ → Fact → Bool
has_unknown_path d n f = fact_has_use (is_unknown_use d n) d n f

-- ---- the rule in its own words

-- a target of the use's path is judged, and is no fact
abbrev pub LacksTarget : Dictionary → UsePath → Condition → Targets → Type 0
LacksTarget d path c t = (IsTrue (is_judged path c) × (t.first ≡ None)) ⊎ (IsTrue (is_second_judged d path t.first) × (t.second ≡ None))

-- the use's path stands in its place
abbrev pub IsUnknown : Dictionary → ℕ → UseAt → Type 0
IsUnknown d n u = (path : UsePath) × (u.used.path ≡ Some path) × IsTrue (is_in_place d n u.use_op u.condition path) × LacksTarget d path u.condition (targets d n (base_of u.condition) path)

abbrev pub NamesNoFact : Dictionary → ℕ → Fact → Type 0
NamesNoFact d n f = Any (IsUnknown d n) (fact_uses d n f)
