use Rattle.std.proofs.Common.{Ok, ap, ap₂, ◌∙◌}
use Rattle.three_state.specs.Results.{after_verdict}
use Rattle.operations.specs.FieldFolds.{count_end}
use Rattle.operations.proofs.FieldLaws.{count_from-start}
use Rattle.operations.proofs.fields.CountFold.end.Goals as goal

pub returns-clause-node : goal.returns-clause-node
returns-clause-node c = λ source field seen.
    c.after_verdict.ensures ∙ ap₂ after_verdict c.verdict.ensures (ap Ok c.counted.ensures) ∙ ap count_end (c.self.view_is ∙ seen) ∙ count_from-start source field
