use Rattle.explain.proofs.KeepLaws.{missing_keep}
use Rattle.explain.proofs.laws.missing_answers_keep_the_result.Goals as goal

pub returns : goal.returns
returns c = missing_keep
