use Rattle.std.proofs.Common.{◌+◌, drop, slice_get, subst, arith}
use Rattle.dictionary.specs.AcceptedParts.{accepted}
use Rattle.dict_meaning.specs.Plain.{plain}
use Rattle.fact_watch.specs.Tables.{named_relations}
use Rattle.session_lines.specs.Firing.{firing_lines, firing_lines_at}
use Rattle.session_lines.proofs.FiringLaws.{lines_at, lines_end}
use Rattle.session_lines.proofs.WritingLaws.{LinesSoFar, so_far_all, so_far_fails, so_far_none, so_far_on}
use Rattle.session_lines.proofs.firing.put_fired.Goals as goal

pub loop-n-init : goal.loop-n-init
loop-n-init g c = λ before noted. so_far_none _ _

pub returns-in-Err : goal.returns-in-Err
returns-in-Err g c = λ before noted.
    let d = accepted c.args.session.now.dict in
    let now = plain d c.args.session.now.timeline.now in
    let watched = c.args.watches.now.watched in
    let named = (named_relations c.args.table.now) in
    so_far_fails _ _ _ (firing_lines d.tree named before now watched) (firing_lines_at d.tree named before now (slice_get watched c.loop-n.n)) (firing_lines d.tree named before now (drop (c.loop-n.n + 1) watched))
    (subst (LinesSoFar _ _ _) (lines_at d.tree named before now c.loop-n.n watched (omega (arith, c.loop-n-test.true, c.len-n-end.ensures.count))) (c.loop-n.invariant before noted))
    (c.in-Err.ensures before noted)

pub loop-n-preserved : goal.loop-n-preserved
loop-n-preserved g c = λ before noted.
    let d = accepted c.args.session.now.dict in
    let now = plain d c.args.session.now.timeline.now in
    let watched = c.args.watches.now.watched in
    let named = (named_relations c.args.table.now) in
    so_far_on _ _ _ (firing_lines d.tree named before now watched) (firing_lines_at d.tree named before now (slice_get watched c.loop-n.n)) (firing_lines d.tree named before now (drop (c.loop-n.n + 1) watched))
    (subst (LinesSoFar _ _ _) (lines_at d.tree named before now c.loop-n.n watched (omega (arith, c.loop-n-test.true, c.len-n-end.ensures.count))) (c.loop-n.invariant before noted))
    (c.in-Ok.ensures before noted)

pub returns : goal.returns
returns g c = λ before noted.
    let d = accepted c.args.session.now.dict in
    so_far_all _ _ _ _ (lines_end d.tree (named_relations c.args.table.now) before (plain d c.args.session.now.timeline.now) c.loop-n.n c.args.watches.now.watched (omega (arith, c.loop-n-test.false, c.len-n-end.ensures.count)))
    (c.loop-n.invariant before noted)
