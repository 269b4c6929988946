use Rattle.saved_text.proofs.CarriedTexts.{one_text}
use Rattle.saved_text.proofs.laws.carried_texts_tell_their_lines.Goals as goal

pub returns : goal.returns
returns c = one_text
