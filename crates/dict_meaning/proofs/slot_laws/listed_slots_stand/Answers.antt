use Rattle.dict_meaning.proofs.SlotLaws.{listed_stand}
use Rattle.dict_meaning.proofs.slot_laws.listed_slots_stand.Goals as goal

pub returns : goal.returns
returns c = listed_stand
