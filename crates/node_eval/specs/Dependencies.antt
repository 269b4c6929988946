-- What a node reads, over a map of results.
use Rattle.std.specs.Prelude.{ℕ, Option, Some, None}
use Rattle.fact_values.specs.declared.fact_type.FactType.TheVariants as types
use Rattle.fact_values.specs.declared.value.Value.{Value}
use Rattle.three_state.specs.declared.res.Res.{Res}
use Rattle.three_state.specs.declared.res.Res.TheVariants.{Incomplete}
use Rattle.three_state.specs.Results.{count_of}
use Rattle.evaluation.specs.Over.{Env}
use Rattle.evaluation.specs.Reads.{collection_size, complete_test, sum_over, through_item}
use Rattle.evaluation.specs.Results.{Results, result_at}
use Rattle.node_eval.specs.View.{Reading}
use Rattle.node_eval.specs.declared.node.NodeRead.{NodeRead}
use Rattle.node_eval.specs.declared.node.NodeRead.TheVariants as node_read
use Rattle.node_eval.specs.declared.node.ResolvedPath.{ResolvedPath}
use Rattle.node_eval.specs.declared.node.ResolvedPath.TheVariants.{Global, Same, Inner, Each, Through, SameThrough}
use Rattle.node_eval.specs.declared.node_position.NodePosition.{NodePosition}

-- ---- the facts that a path names

abbrev pub first_of : ResolvedPath → ℕ
first_of (Global n) = n
first_of (Same n) = n
first_of (Inner n) = n
first_of (Each n m) = n
first_of (Through n m) = n
first_of (SameThrough n m) = n

abbrev pub second_of : ResolvedPath → Option ℕ
second_of (Global n) = None
second_of (Same n) = None
second_of (Inner n) = None
second_of (Each n m) = Some m
second_of (Through n m) = Some m
second_of (SameThrough n m) = Some m

-- ---- what is read at a place

abbrev pub dependency : Results → NodePosition → ResolvedPath → Res
dependency results at (Global n) = result_at results (Some n) 0
dependency results at (Same n) = result_at results (Some n) at.own
dependency results at (Inner n) = result_at results (Some n) at.inner
dependency results at (Each n m) = Incomplete
dependency results at (Through n m) = through_item (result_at results (Some n) 0) (result_at results (Some m))
dependency results at (SameThrough n m) = through_item (result_at results (Some n) at.own) (result_at results (Some m))

-- the collection of a CollectionSize, a sum, a Count, a Filter or a Find
abbrev pub collection : Results → ResolvedPath → Res
collection results r = result_at results (Some (first_of r)) 0

-- the field of a member, in a sum or a Count
abbrev pub field : Results → ResolvedPath → ℕ → Res
field results r m = result_at results (second_of r) m

abbrev pub read_result : Results → NodePosition → NodeRead → ResolvedPath → Res
read_result results at node_read.Dependency r = dependency results at r
read_result results at node_read.IsComplete r = complete_test (dependency results at r)
read_result results at node_read.CollectionSize r = collection_size (collection results r)
read_result results at node_read.SumInt r = sum_over types.Int (collection results r) (field results r)
read_result results at node_read.SumDollar r = sum_over types.Dollar (collection results r) (field results r)
read_result results at node_read.Count r = count_of (collection results r) (field results r)

-- the place of a member under a condition
abbrev pub entered : NodePosition → ℕ → NodePosition
entered at m = record { own = at.own; inner = m }

-- what nodes stand in
abbrev pub node_env : Results → Env Value Reading ResolvedPath NodePosition
node_env results = record {
  constant = λ v. v;
  reads = λ at r. read_result results at r.0 r.1;
  source = λ at r. collection results r;
  enter = λ at r m. entered at m;
}
