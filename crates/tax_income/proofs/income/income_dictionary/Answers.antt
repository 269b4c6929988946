use Rattle.std.proofs.Common.{[], subst, sym}
use Rattle.dict_source.specs.Dictionary.{Dictionary as Tree}
use Rattle.dictionary.specs.Faults.{HasNoFault}
use Rattle.tax_income.specs.Years.{income_of}
use Rattle.tax_income.proofs.IncomeDictionary.{income_has_none, is_of_income}
use Rattle.tax_income.proofs.income.income_dictionary.Goals as goal

pub of_faultless_source-requires : goal.of_faultless_source-requires
of_faultless_source-requires c = subst (λ (d : Tree). HasNoFault d []) (sym c.in_ok-source.ensures) (income_has_none c.args.year)

pub returns : goal.returns
returns c = record {
  of_income = is_of_income (income_of c.args.year) c.in_ok-source.source c.in_ok-source.ensures c.of_faultless_source.result c.of_faultless_source.ensures.is_accepted c.of_faultless_source.ensures.source;
  checks = c.of_faultless_source.ensures.checks;
}
