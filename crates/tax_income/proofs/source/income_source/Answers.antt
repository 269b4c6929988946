use Rattle.std.proofs.Common.{◌≡◌, List, ap, subst, ◌∙◌}
use Rattle.std.specs.Prelude.{IfOk}
use Rattle.dict_source.specs.Dictionary.{dictionary_view}
use Rattle.written_facts.specs.Figures.{Named, figures_view}
use Rattle.tax_2023.specs.Figures.{figures}
use Rattle.tax_2023.specs.Years.{tables_of}
use Rattle.tax_income.specs.Facts.{income_dictionary}
use Rattle.tax_income.proofs.source.income_source.Goals as goal

pub returns : goal.returns
returns c =
    let fs = figures (tables_of c.args.year) in
    subst (λ (gs : List Named). IfOk c.with_income.result (λ source. dictionary_view source ≡ income_dictionary fs gs)) (ap figures_view c.deref.ensures.value ∙ c.in_ok-figures.ensures) (c.with_income.ensures fs c.in_ok-source.ensures)
