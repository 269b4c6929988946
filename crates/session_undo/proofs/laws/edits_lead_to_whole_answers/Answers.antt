use Rattle.session_undo.proofs.TimelineLaws.{timeline_moved_back, timeline_moved_forth, timeline_changed, forgotten_timeline}
use Rattle.session_undo.proofs.laws.edits_lead_to_whole_answers.Goals as goal

pub returns : goal.returns
returns c = record { back = timeline_moved_back; forth = timeline_moved_forth; change = timeline_changed; forgetting = forgotten_timeline }
