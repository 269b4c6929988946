use Rattle.std.proofs.Common.{refl}
use Rattle.dict_source.specs.Dictionary.{dictionary_view}
use Rattle.written_facts.specs.Figures.{figures_view}
use Rattle.written_facts.specs.WrittenFacts.{written_views}
use Rattle.tax_2023.proofs.SourceLaws.{grown, taken}
use Rattle.tax_income.specs.Facts.{credit, income_dictionary, with_children}
use Rattle.tax_income.proofs.IncomeSource.{credit_taken}
use Rattle.tax_income.proofs.source.add_credit.Goals as goal

pub push_facts-requires : goal.push_facts-requires
push_facts-requires c =
    let gs = figures_view c.args.figures.now in
    let fs = c.requires.0 in
    taken (dictionary_view c.args.source.now) (with_children fs gs) (written_views gs c.credit_rows.result.now) (credit) c.requires.1 (c.credit_rows.ensures gs) (credit_taken fs gs)

pub returns : goal.returns
returns c = λ fs is.
    let gs = figures_view c.args.figures.now in
    grown (dictionary_view c.args.source.now) (with_children fs gs) (dictionary_view c.push_facts.new.source) (written_views gs c.credit_rows.result.now) (credit) (income_dictionary fs gs) c.push_facts.result c.push_facts.ensures is (c.credit_rows.ensures gs) refl
