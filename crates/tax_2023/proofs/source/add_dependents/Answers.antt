use Rattle.std.proofs.Common.{refl}
use Rattle.dict_source.specs.Dictionary.{dictionary_view}
use Rattle.written_facts.specs.Figures.{figures_view}
use Rattle.written_facts.specs.WrittenFacts.{written_views}
use Rattle.tax_2023.specs.Facts.{persons, with_persons, with_return}
use Rattle.tax_2023.proofs.SourceLaws.{grown, persons_taken, taken}
use Rattle.tax_2023.proofs.source.add_dependents.Goals as goal

pub push_facts-requires : goal.push_facts-requires
push_facts-requires c =
    taken (dictionary_view c.args.source.now) (with_return (figures_view c.args.figures.now)) (written_views (figures_view c.args.figures.now) c.dependent_rows.result.now) persons c.requires (c.dependent_rows.ensures (figures_view c.args.figures.now)) (persons_taken (figures_view c.args.figures.now))

pub returns : goal.returns
returns c =
    grown (dictionary_view c.args.source.now) (with_return (figures_view c.args.figures.now)) (dictionary_view c.push_facts.new.source) (written_views (figures_view c.args.figures.now) c.dependent_rows.result.now) persons (with_persons (figures_view c.args.figures.now)) c.push_facts.result c.push_facts.ensures c.requires (c.dependent_rows.ensures (figures_view c.args.figures.now)) refl
