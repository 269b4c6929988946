use Rattle.std.proofs.Common.{ap, ◌∙◌}
use Rattle.operations.specs.ManyFolds.{many_end}
use Rattle.operations.proofs.ManyLaws.{many_from-start}
use Rattle.operations.proofs.many_operands.ManyFold.end.Goals as goal

pub returns-clause-node : goal.returns-clause-node
returns-clause-node c = λ op rs seen.
    c.end.ensures ∙ ap many_end (c.self.view_is ∙ seen) ∙ many_from-start op rs
