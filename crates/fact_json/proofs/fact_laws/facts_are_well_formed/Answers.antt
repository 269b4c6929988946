use Rattle.fact_json.proofs.FactJsonLaws.{fact_found}
use Rattle.fact_json.proofs.FactLaws.{fact_is_well_formed}
use Rattle.fact_json.proofs.fact_laws.facts_are_well_formed.Goals as goal

pub returns : goal.returns
returns c = λ version tables d f e. fact_is_well_formed tables version d f (fact_found tables version d f e)
