use Rattle.shared_desk.proofs.SeenLaws.{edits_find_what_was_seen}
use Rattle.shared_desk.proofs.laws.edits_find_what_their_party_saw.Goals as goal

pub returns : goal.returns
returns c = edits_find_what_was_seen
