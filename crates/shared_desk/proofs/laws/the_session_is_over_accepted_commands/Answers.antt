use Rattle.shared_desk.proofs.PartyLaws.{accepted_are_answered, session_is_over_accepted}
use Rattle.shared_desk.proofs.laws.the_session_is_over_accepted_commands.Goals as goal

pub returns-clause-session_state : goal.returns-clause-session_state
returns-clause-session_state c = session_is_over_accepted

pub returns-clause-replies : goal.returns-clause-replies
returns-clause-replies c = accepted_are_answered
