use Rattle.dict_meaning.proofs.HomeLaws.{text_spells}
use Rattle.dict_meaning.proofs.home_laws.slot_texts_spell_paths.Goals as goal

pub returns : goal.returns
returns c = text_spells
