use Rattle.std.proofs.Common.{[], subst, sym}
use Rattle.dict_source.specs.Dictionary.{Dictionary as Tree}
use Rattle.dictionary.specs.Faults.{HasNoFault}
use Rattle.tax_2023.specs.Years.{tables_of}
use Rattle.tax_2023.proofs.NoFault.{is_of_year, year_has_none}
use Rattle.tax_2023.proofs.year.year_dictionary.Goals as goal

pub of_faultless_source-requires : goal.of_faultless_source-requires
of_faultless_source-requires c = subst (λ (d : Tree). HasNoFault d []) (sym c.in_ok-source.ensures) (year_has_none c.args.year)

pub returns : goal.returns
returns c = record {
  of_year = is_of_year (tables_of c.args.year) c.in_ok-source.source c.in_ok-source.ensures c.of_faultless_source.result c.of_faultless_source.ensures.is_accepted c.of_faultless_source.ensures.source;
  checks = c.of_faultless_source.ensures.checks;
}
