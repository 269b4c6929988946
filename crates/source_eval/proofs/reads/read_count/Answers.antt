use Rattle.std.proofs.Common.{List, ℕ, map, ap, ap₂, ◌∙◌}
use Rattle.three_state.specs.Results.{members_of}
use Rattle.operations.proofs.FieldLaws.{count_from-start}
use Rattle.operations.specs.FieldFolds.{FieldsCounted, count_from, count_start}
use Rattle.dict_meaning.specs.Dependencies.{collection}
use Rattle.evaluation.specs.Results.{result_at}
use Rattle.source_eval.proofs.reads.read_count.Goals as goal

pub loop-member-init : goal.loop-member-init
loop-member-init g c =
    let results = (g.G.EvalContext.meaning c.args.context.now).results in
    let source = collection results c.args.targets in
    let field = result_at results c.args.targets.second in
    let start = c.new-fold.ensures ∙ ap count_start c.result_at-source.ensures in
    let members = c.members-member-items.ensures.value ∙ ap members_of c.result_at-source.ensures in
    record {
      value = ap₂ (λ (f : FieldsCounted) (ms : List ℕ). count_from f (map field ms)) start members ∙ count_from-start source field;
      count = ap (λ (f : FieldsCounted). f.count) c.new-fold.ensures;
    }
