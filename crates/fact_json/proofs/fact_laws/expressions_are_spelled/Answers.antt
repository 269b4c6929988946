use Rattle.fact_json.proofs.ExprLaws.{found, spelled_again}
use Rattle.fact_json.proofs.fact_laws.expressions_are_spelled.Goals as goal

pub returns-clause-spelled : goal.returns-clause-spelled
returns-clause-spelled c = found

pub returns-clause-read : goal.returns-clause-read
returns-clause-read c = spelled_again
