use Rattle.std.proofs.Common.{refl}
use Rattle.dict_source.specs.Dictionary.{dictionary_view}
use Rattle.written_facts.specs.Figures.{figures_view}
use Rattle.written_facts.specs.WrittenFacts.{written_views}
use Rattle.tax_2023.specs.Facts.{at_start, filer, with_filer}
use Rattle.tax_2023.proofs.SourceLaws.{grown, filer_taken, taken}
use Rattle.tax_2023.proofs.source.add_filer.Goals as goal

pub push_facts-requires : goal.push_facts-requires
push_facts-requires c =
    taken (dictionary_view c.args.source.now) at_start (written_views (figures_view c.args.figures.now) c.filer_rows.result.now) filer c.requires (c.filer_rows.ensures (figures_view c.args.figures.now)) filer_taken

pub returns : goal.returns
returns c =
    grown (dictionary_view c.args.source.now) at_start (dictionary_view c.push_facts.new.source) (written_views (figures_view c.args.figures.now) c.filer_rows.result.now) filer with_filer c.push_facts.result c.push_facts.ensures c.requires (c.filer_rows.ensures (figures_view c.args.figures.now)) refl
