use Rattle.written_facts.proofs.FormViews.{forms}
use Rattle.tax_2023.proofs.source.test_rows.Goals as goal

pub returns : goal.returns
returns c = λ fs. simp forms
