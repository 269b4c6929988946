use Rattle.dict_meaning.proofs.FinalLaws.{final_stays}
use Rattle.dict_meaning.proofs.final_laws.final_results_stay.Goals as goal

pub returns : goal.returns
returns c = final_stays
