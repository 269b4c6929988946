use Rattle.dict_meaning.proofs.UndoneLaws.{extended_tells}
use Rattle.dict_meaning.proofs.undone_laws.undoing_tells_extensions.Goals as goal

pub returns : goal.returns
returns c = extended_tells
