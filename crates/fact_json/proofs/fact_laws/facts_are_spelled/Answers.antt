use Rattle.fact_json.proofs.FactJsonLaws.{fact_found, fact_again}
use Rattle.fact_json.proofs.fact_laws.facts_are_spelled.Goals as goal

pub returns-clause-spelled : goal.returns-clause-spelled
returns-clause-spelled c = λ version tables. fact_found tables version

pub returns-clause-read : goal.returns-clause-read
returns-clause-read c = λ version tables. fact_again tables version
