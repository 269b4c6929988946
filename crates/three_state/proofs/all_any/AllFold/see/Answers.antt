use Rattle.std.proofs.Common.{false, sym, ap, ◌∙◌}
use Rattle.three_state.specs.Folds.{junction_next}
use Rattle.three_state.specs.Junctions.{end_of}
use Rattle.three_state.proofs.FoldLaws.{end_of-with_operand, junction-push}
use Rattle.three_state.proofs.all_any.AllFold.see.Goals as goal

pub returns-clause-next : goal.returns-clause-next
returns-clause-next c = ap (end_of false) c.see.ensures ∙ end_of-with_operand false c.self.inside.seen c.args.res.now ∙ ap (λ r. junction_next false r c.args.res.now) c.self.view_is

pub returns-clause-seen : goal.returns-clause-seen
returns-clause-seen c = λ rs seen. returns-clause-next c ∙ ap (λ r. junction_next false r c.args.res.now) seen ∙ sym (junction-push false rs c.args.res.now)
