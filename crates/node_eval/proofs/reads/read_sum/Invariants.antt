use Rattle.std.proofs.Common.{◌≡◌, map, drop}
use Rattle.evaluation.specs.Reads.{sum_over}
use Rattle.operations.specs.FieldFolds.{sum_from}
use Rattle.evaluation.specs.Results.{result_at}
use Rattle.node_eval.specs.Dependencies.{collection, field}
use Rattle.node_eval.proofs.reads.read_sum.Given as goal

abbrev pub invariant-loop-member : goal.invariant-loop-member
invariant-loop-member g l =
    let results = g.C.Cells.results l.cells in
    record {
      value : sum_from l.fold (map (result_at results l.field) (drop l.member-index l.member-items)) ≡ sum_over l.fn.of (collection results l.fn.path) (field results l.fn.path);
      count : l.fold.count ≡ l.member-index;
    }
