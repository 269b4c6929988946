use Rattle.std.proofs.Common.{ap, ap₂, ◌∙◌}
use Rattle.three_state.specs.Results.{after_verdict}
use Rattle.operations.specs.FieldFolds.{sum_end}
use Rattle.operations.proofs.FieldLaws.{sum_from-start}
use Rattle.operations.proofs.fields.SumFold.end.Goals as goal

pub returns-clause-node : goal.returns-clause-node
returns-clause-node c = λ t source field seen.
    c.after_verdict.ensures ∙ ap₂ after_verdict c.verdict.ensures c.sum.ensures ∙ ap sum_end (c.self.view_is ∙ seen) ∙ sum_from-start t source field
