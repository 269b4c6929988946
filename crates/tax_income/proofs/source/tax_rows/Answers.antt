use Rattle.written_facts.proofs.FormViews.{forms}
use Rattle.tax_income.proofs.source.tax_rows.Goals as goal

pub returns : goal.returns
returns c = λ fs. simp forms
