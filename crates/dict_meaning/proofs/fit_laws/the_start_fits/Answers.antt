use Rattle.dict_meaning.proofs.FitStart.{start_fits}
use Rattle.dict_meaning.proofs.fit_laws.the_start_fits.Goals as goal

pub returns : goal.returns
returns c = start_fits
