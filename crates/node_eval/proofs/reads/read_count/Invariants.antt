use Rattle.std.proofs.Common.{◌≡◌, map, drop}
use Rattle.three_state.specs.Results.{count_of}
use Rattle.operations.specs.FieldFolds.{count_from}
use Rattle.evaluation.specs.Results.{result_at}
use Rattle.node_eval.specs.Dependencies.{collection, field}
use Rattle.node_eval.proofs.reads.read_count.Given as goal

abbrev pub invariant-loop-member : goal.invariant-loop-member
invariant-loop-member g l =
    let results = g.C.Cells.results l.cells in
    record {
      value : count_from l.fold (map (result_at results l.field) (drop l.member-index l.member-items)) ≡ count_of (collection results l.fn.path) (field results l.fn.path);
      count : l.fold.count ≡ l.member-index;
    }
