use Rattle.shared_desk.proofs.PartyLaws.{one_party_is_alone}
use Rattle.shared_desk.proofs.laws.a_party_alone_has_a_session.Goals as goal

pub returns : goal.returns
returns c = one_party_is_alone
