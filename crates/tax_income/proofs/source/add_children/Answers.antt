use Rattle.std.proofs.Common.{refl}
use Rattle.dict_source.specs.Dictionary.{dictionary_view}
use Rattle.written_facts.specs.Figures.{figures_view}
use Rattle.written_facts.specs.WrittenFacts.{written_views}
use Rattle.tax_2023.proofs.SourceLaws.{grown, taken}
use Rattle.tax_income.specs.Facts.{children, with_children, with_taxes}
use Rattle.tax_income.proofs.IncomeSource.{children_taken}
use Rattle.tax_income.proofs.source.add_children.Goals as goal

pub push_facts-requires : goal.push_facts-requires
push_facts-requires c =
    let gs = figures_view c.args.figures.now in
    let fs = c.requires.0 in
    taken (dictionary_view c.args.source.now) (with_taxes fs gs) (written_views gs c.child_rows.result.now) (children gs) c.requires.1 (c.child_rows.ensures gs) (children_taken fs gs)

pub returns : goal.returns
returns c = λ fs is.
    let gs = figures_view c.args.figures.now in
    grown (dictionary_view c.args.source.now) (with_taxes fs gs) (dictionary_view c.push_facts.new.source) (written_views gs c.child_rows.result.now) (children gs) (with_children fs gs) c.push_facts.result c.push_facts.ensures is (c.child_rows.ensures gs) refl
