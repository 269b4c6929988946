use Rattle.std.proofs.Common.{◌∙◌}
use Rattle.dirty_slots.proofs.DirtyLaws.{lowest, waits_cmp}
use Rattle.dirty_slots.proofs.unplaced.lowest.Goals as goal

pub returns-clause-some : goal.returns-clause-some
returns-clause-some c = waits_cmp c.args.set.now.keys c.in_ok-first.first.now ∙ c.in_ok-first.ensures.member

pub returns-clause-least : goal.returns-clause-least
returns-clause-least c = lowest c.args.set.now.keys c.in_ok-first.first.now c.in_ok-first.ensures.least
