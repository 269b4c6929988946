use Rattle.session_steps.proofs.SessionLaws.{questions_change_none, touched_have_number, untouched_keep_all}
use Rattle.session_steps.proofs.laws.untouched_slots_keep_results_and_stamps.Goals as goal

pub returns : goal.returns
returns c = record { untouched = untouched_keep_all; touched = touched_have_number; question = questions_change_none }
