use Rattle.dep_index.specs.Readers.{readers_of}
use Rattle.recalc.specs.Propagations.{setting_of}
use Rattle.recalc.proofs.Outcomes.{on_ok_then}
use Rattle.recalc.proofs.TurnLaws.{has_turned}
use Rattle.recalc.proofs.turn.turn.Goals as goal

pub returns-clause-turned : goal.returns-clause-turned
returns-clause-turned g c =
    on_ok_then c.mark_if.result c.mark_if.ensures.marked (λ marks.
    has_turned (setting_of c.args.propagation.now) (readers_of c.args.graph.now.readers c.args.slot.fact) c.args.slot c.args.state.now
    (record { store = c.put.new.store; queue = c.mark_if.new.queue; log = c.put.new.self }) c.in_ok-res.res c.in_ok-moved.moved
    c.in_ok-res.ensures.value c.requires.stay c.in_ok-moved.ensures.cells c.in_ok-moved.ensures.kept c.in_ok-moved.ensures.moved
    marks)
