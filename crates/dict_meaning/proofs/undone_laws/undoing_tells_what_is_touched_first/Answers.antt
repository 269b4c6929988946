use Rattle.dict_meaning.proofs.UndoneLaws.{first_tells}
use Rattle.dict_meaning.proofs.undone_laws.undoing_tells_what_is_touched_first.Goals as goal

pub returns : goal.returns
returns c = first_tells
