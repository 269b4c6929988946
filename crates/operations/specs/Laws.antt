-- Laws of the folds: what each gives, from its start over a whole list.
use Rattle.std.specs.Prelude.{◌≡◌, ℕ, true, List, [], map}
use Rattle.fact_values.specs.declared.fact_type.FactType.{FactType}
use Rattle.fact_values.specs.Members.{IsMemberList}
use Rattle.dict_source.specs.declared.operators.ManyOp.{ManyOp}
use Rattle.three_state.specs.Folds.{filter_on}
use Rattle.three_state.specs.Results.{count_of, filter_of, find_of, kept, members_of, switch_of}
use Rattle.three_state.specs.declared.res.Res.{Res}
use Rattle.evaluation.specs.Over.{many_of}
use Rattle.evaluation.specs.Reads.{sum_over, through_item}
use Rattle.operations.specs.CaseSteps.{find_after, switch_from}
use Rattle.operations.specs.FieldFolds.{count_from, count_start, sum_from, sum_start}
use Rattle.operations.specs.ItemSteps.{after_item, item_step}
use Rattle.operations.specs.ManyFolds.{many_from, many_start}
use Rattle.operations.specs.Sources.{verdict_on_source}

-- a node with many operands
abbrev pub ManyFolds : Type 0
ManyFolds = (op : ManyOp) (rs : List Res) → many_from (many_start op) rs ≡ many_of op rs

-- CollectionSum, over the fields of the collection's members
abbrev pub SumFolds : Type 0
SumFolds = (t : FactType) (source : Res) (field : ℕ → Res) → sum_from (sum_start t source) (map field (members_of source)) ≡ sum_over t source field

-- Count, over the fields of the collection's members
abbrev pub CountFolds : Type 0
CountFolds = (source : Res) (field : ℕ → Res) → count_from (count_start source) (map field (members_of source)) ≡ count_of source field

-- a Switch, over its conditions and cases
abbrev pub SwitchSteps : Type 0
SwitchSteps = (cs : List (Res × Res)) → switch_from true cs ≡ switch_of cs

-- a Find, over the members of its collection
abbrev pub FindSteps : Type 0
FindSteps = (source : Res) (condition : ℕ → Res) → find_after (verdict_on_source source) condition (members_of source) ≡ find_of source condition

-- a Filter, over the members of its collection
abbrev pub FilterFolds : Type 0
FilterFolds = (source : Res) (condition : ℕ → Res) → filter_on condition [] (verdict_on_source source) (members_of source) ≡ filter_of source condition

-- a Filter keeps a list of members
abbrev pub KeptAreMembers : Type 0
KeptAreMembers = (condition : ℕ → Res) (ms : List ℕ) → IsMemberList ms → IsMemberList (kept condition ms)

-- a Dependency through an item
abbrev pub ItemSteps : Type 0
ItemSteps = (item : Res) (field : ℕ → Res) → after_item (item_step item) field ≡ through_item item field
