use Rattle.value_text.proofs.TypeLaws.{printed_again}
use Rattle.value_text.proofs.laws.canonical_text_stays.Goals as goal

pub returns : goal.returns
returns c = printed_again
