use Rattle.std.proofs.Common.{◌≡◌, List, subst, ◌∙◌}
use Rattle.std.specs.Prelude.{IfOk}
use Rattle.written_facts.specs.Figures.{Named, figures_view}
use Rattle.tax_income.proofs.IncomeLines.{lines_are}
use Rattle.tax_income.proofs.figures.figures_of.Goals as goal

pub returns : goal.returns
returns c = subst (λ (fs : List Named). IfOk c.figures_from.result (λ made. figures_view made.items ≡ fs)) (c.lines_of.ensures ∙ lines_are c.args.year) c.figures_from.ensures
