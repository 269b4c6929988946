use Rattle.std.proofs.Common.{List, ℕ, map, ap, ap₂, ◌∙◌}
use Rattle.three_state.specs.Results.{members_of}
use Rattle.operations.proofs.FieldLaws.{sum_from-start}
use Rattle.operations.specs.FieldFolds.{FieldsSummed, sum_from, sum_start}
use Rattle.dict_meaning.specs.Dependencies.{collection, field_type}
use Rattle.evaluation.specs.Results.{result_at}
use Rattle.source_eval.proofs.reads.read_sum.Goals as goal

pub loop-member-init : goal.loop-member-init
loop-member-init g c =
    let results = (g.G.EvalContext.meaning c.args.context.now).results in
    let of = field_type (g.G.EvalContext.meaning c.args.context.now).tree c.args.targets in
    let source = collection results c.args.targets in
    let field = result_at results c.args.targets.second in
    let start = c.new-fold.ensures ∙ ap₂ sum_start c.summed_type.ensures c.result_at-source.ensures in
    let members = c.members-member-items.ensures.value ∙ ap members_of c.result_at-source.ensures in
    record {
      value = ap₂ (λ (f : FieldsSummed) (ms : List ℕ). sum_from f (map field ms)) start members ∙ sum_from-start of source field;
      count = ap (λ (f : FieldsSummed). f.count) c.new-fold.ensures;
    }
