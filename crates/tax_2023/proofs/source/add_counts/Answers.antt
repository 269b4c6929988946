use Rattle.dict_source.specs.Dictionary.{dictionary_view}
use Rattle.written_facts.specs.Figures.{figures_view}
use Rattle.written_facts.specs.WrittenFacts.{written_views}
use Rattle.tax_2023.specs.Facts.{counts, dictionary, with_tests}
use Rattle.tax_2023.proofs.SourceLaws.{all_are_there, grown, counts_taken, taken}
use Rattle.tax_2023.proofs.source.add_counts.Goals as goal

pub push_facts-requires : goal.push_facts-requires
push_facts-requires c =
    taken (dictionary_view c.args.source.now) (with_tests (figures_view c.args.figures.now)) (written_views (figures_view c.args.figures.now) c.count_rows.result.now) counts c.requires (c.count_rows.ensures (figures_view c.args.figures.now)) (counts_taken (figures_view c.args.figures.now))

pub returns : goal.returns
returns c =
    grown (dictionary_view c.args.source.now) (with_tests (figures_view c.args.figures.now)) (dictionary_view c.push_facts.new.source) (written_views (figures_view c.args.figures.now) c.count_rows.result.now) counts (dictionary (figures_view c.args.figures.now)) c.push_facts.result c.push_facts.ensures c.requires (c.count_rows.ensures (figures_view c.args.figures.now)) (all_are_there (figures_view c.args.figures.now))
