use Rattle.std.proofs.Common.{◌≡◌, map, drop}
use Rattle.three_state.specs.Results.{count_of}
use Rattle.operations.specs.FieldFolds.{count_from}
use Rattle.dict_meaning.specs.Dependencies.{collection}
use Rattle.evaluation.specs.Results.{result_at}
use Rattle.source_eval.proofs.reads.read_count.Given as goal

abbrev pub invariant-loop-member : goal.invariant-loop-member
invariant-loop-member g l =
    let results = (g.G.EvalContext.meaning l.context).results in
    record {
      value : count_from l.fold (map (result_at results l.targets.second) (drop l.member-index l.member-items)) ≡ count_of (collection results l.targets) (result_at results l.targets.second);
      count : l.fold.count ≡ l.member-index;
    }
