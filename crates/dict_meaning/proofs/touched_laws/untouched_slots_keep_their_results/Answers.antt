use Rattle.dict_meaning.proofs.UntouchedLaws.{untouched_keeps}
use Rattle.dict_meaning.proofs.touched_laws.untouched_slots_keep_their_results.Goals as goal

pub returns : goal.returns
returns c = untouched_keeps
