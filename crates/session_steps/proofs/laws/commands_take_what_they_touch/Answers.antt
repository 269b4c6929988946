use Rattle.session_steps.proofs.SessionLaws.{changes_take_touched, questions_take_none, refused_take_none}
use Rattle.session_steps.proofs.laws.commands_take_what_they_touch.Goals as goal

pub returns : goal.returns
returns c = record { change = changes_take_touched; refused = refused_take_none; question = questions_take_none }
