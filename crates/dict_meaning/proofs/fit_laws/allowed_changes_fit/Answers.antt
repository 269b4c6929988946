use Rattle.dict_meaning.proofs.FitChangeLaws.{allowed_changes_fit}
use Rattle.dict_meaning.proofs.fit_laws.allowed_changes_fit.Goals as goal

pub returns : goal.returns
returns c = allowed_changes_fit
