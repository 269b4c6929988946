-- What an expression of a fact reads, over a map of results.
use Rattle.std.specs.Prelude.{ℕ, false, List, Option, Some, None, option_and_then, unwrap_or}
use Rattle.fact_paths.specs.declared.use_path.UsePath.{UsePath}
use Rattle.fact_paths.specs.declared.use_path.UsePath.TheVariants.{Global, Sibling, Inner, Each, Through, SiblingThrough}
use Rattle.fact_values.specs.declared.fact_type.FactType.{FactType}
use Rattle.fact_values.specs.declared.fact_type.FactType.TheVariants as types
use Rattle.fact_values.specs.declared.value.Value.{Value}
use Rattle.fact_values.specs.declared.value.Value.TheVariants as values
use Rattle.value_text.specs.Enums.{Listed}
use Rattle.dict_source.specs.declared.operators.ReadOp.{ReadOp}
use Rattle.dict_source.specs.declared.operators.ReadOp.TheVariants as read_op
use Rattle.dict_source.specs.declared.targets.Targets.{Targets}
use Rattle.dict_source.specs.Tree.{Literal, Reading, Use}
use Rattle.dict_source.specs.Dictionary.{Dictionary as Tree}
use Rattle.dict_source.specs.Mentions.{condition_base}
use Rattle.dict_source.specs.Targets.{targets}
use Rattle.node_types.specs.Constants.{literal_value}
use Rattle.node_types.specs.StatedTypes.{type_at}
use Rattle.three_state.specs.declared.res.Res.{Res}
use Rattle.three_state.specs.declared.res.Res.TheVariants.{Incomplete}
use Rattle.three_state.specs.Results.{count_of}
use Rattle.evaluation.specs.Over.{Env}
use Rattle.evaluation.specs.Results.{Results, result_at}
use Rattle.evaluation.specs.Reads.{collection_size, complete_test, sum_over, through_item}

-- ---- where an expression stands

-- the member of its slot, and under a condition the condition's member; the base of the innermost condition is the number of
-- a collection's fact, and 0 outside of all conditions
pub record EvalPosition : Type 0 where
  pub base : ℕ
  pub own : ℕ
  pub inner : ℕ

-- outside of all conditions
abbrev pub outermost : ℕ → EvalPosition
outermost own = record { base = 0; own = own; inner = 0 }

-- ---- what a use path reads, from the facts that are its targets

abbrev pub dependency : Results → Targets → EvalPosition → UsePath → Res
dependency results t at (Global n) = result_at results t.first 0
dependency results t at (Sibling n) = result_at results t.first at.own
dependency results t at (Inner n) = result_at results t.first at.inner
dependency results t at (Each n m) = Incomplete
dependency results t at (Through n m) = through_item (result_at results t.first 0) (result_at results t.second)
dependency results t at (SiblingThrough n m) = through_item (result_at results t.first at.own) (result_at results t.second)

-- the collection of a CollectionSize, CollectionSum, Count, Filter or Find
abbrev pub collection : Results → Targets → Res
collection results t = result_at results t.first 0

-- the type of a CollectionSum's fields: Int where there is none
abbrev pub field_type : Tree → Targets → FactType
field_type d t = unwrap_or (option_and_then (type_at d) t.second) types.Int

abbrev pub read_by : ReadOp → Tree → Results → Targets → EvalPosition → UsePath → Res
read_by read_op.Dependency d results t at path = dependency results t at path
read_by read_op.IsComplete d results t at path = complete_test (dependency results t at path)
read_by read_op.CollectionSize d results t at path = collection_size (collection results t)
read_by read_op.CollectionSum d results t at path = sum_over (field_type d t) (collection results t) (result_at results t.second)
read_by read_op.Count d results t at path = count_of (collection results t) (result_at results t.second)

-- a path that the grammar has no reading of reads nothing
abbrev pub read_result : Tree → Results → ℕ → EvalPosition → ReadOp → Option UsePath → Res
read_result d results fact at op None = Incomplete
read_result d results fact at op (Some path) = read_by op d results (targets d fact at.base path) at path

abbrev pub source_result : Tree → Results → ℕ → EvalPosition → Option UsePath → Res
source_result d results fact at None = Incomplete
source_result d results fact at (Some path) = collection results (targets d fact at.base path)

-- the value that the constant's text spells; a text that spells none counts as false
abbrev pub constant_value : List Listed → Literal → Value
constant_value enums c = unwrap_or (literal_value enums c) (values.Boolean false)

-- the place of a member under a condition
abbrev pub entered : Tree → ℕ → EvalPosition → Option UsePath → ℕ → EvalPosition
entered d fact at path m = record { base = condition_base d fact at.base path; own = at.own; inner = m }

-- what an expression of this fact stands in
abbrev pub source_env : Tree → Results → ℕ → Env Literal Reading Use EvalPosition
source_env d results fact = record {
  constant = constant_value d.enums;
  reads = λ at r. read_result d results fact at r.0 r.1.path;
  source = λ at u. source_result d results fact at u.path;
  enter = λ at u m. entered d fact at u.path m;
}
