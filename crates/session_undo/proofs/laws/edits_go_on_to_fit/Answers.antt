use Rattle.session_undo.proofs.TimelineLaws.{kept_moved_back, kept_moved_forth, kept_changed, kept_forgotten}
use Rattle.session_undo.proofs.laws.edits_go_on_to_fit.Goals as goal

pub returns : goal.returns
returns c = record { back = kept_moved_back; forth = kept_moved_forth; change = kept_changed; forgetting = kept_forgotten }
