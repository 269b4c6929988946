use Rattle.dict_meaning.proofs.FitStart.{given_fit}
use Rattle.dict_meaning.proofs.fit_laws.given_lists_fit.Goals as goal

pub returns : goal.returns
returns c = given_fit
