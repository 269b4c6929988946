use Rattle.std.proofs.Common.{◌≡◌, map, drop}
use Rattle.evaluation.specs.Reads.{sum_over}
use Rattle.operations.specs.FieldFolds.{sum_from}
use Rattle.dict_meaning.specs.Dependencies.{collection, field_type}
use Rattle.evaluation.specs.Results.{result_at}
use Rattle.source_eval.proofs.reads.read_sum.Given as goal

abbrev pub invariant-loop-member : goal.invariant-loop-member
invariant-loop-member g l =
    let results = (g.G.EvalContext.meaning l.context).results in
    record {
      value : sum_from l.fold (map (result_at results l.targets.second) (drop l.member-index l.member-items)) ≡ sum_over (field_type (g.G.EvalContext.meaning l.context).tree l.targets) (collection results l.targets) (result_at results l.targets.second);
      count : l.fold.count ≡ l.member-index;
    }
