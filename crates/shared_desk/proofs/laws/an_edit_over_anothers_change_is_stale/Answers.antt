use Rattle.shared_desk.proofs.StaleLaws.{anothers_change_is_stale, stale_is_anothers_change}
use Rattle.shared_desk.proofs.laws.an_edit_over_anothers_change_is_stale.Goals as goal

pub returns-clause-stale : goal.returns-clause-stale
returns-clause-stale c = stale_is_anothers_change

pub returns-clause-others : goal.returns-clause-others
returns-clause-others c = anothers_change_is_stale
