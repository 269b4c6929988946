use Rattle.std.proofs.Common.{sym, ap, ◌∙◌}
use Rattle.three_state.specs.Folds.{verdict_next}
use Rattle.three_state.proofs.FoldLaws.{verdict_of-push}
use Rattle.three_state.proofs.strict.Strict.see.Goals as goal

pub returns-clause-seen : goal.returns-clause-seen
returns-clause-seen c = λ rs seen. c.next_verdict-self-inside.ensures ∙ ap (λ v. verdict_next v c.args.res.now) (c.self.view_is ∙ seen) ∙ sym (verdict_of-push rs c.args.res.now)
