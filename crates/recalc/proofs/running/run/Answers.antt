use Rattle.std.proofs.Common.{◌≡◌, ◌∙◌, List, false, ap, arith, subst, sym}
use Rattle.dep_index.specs.Readers.{readers_of}
use Rattle.dep_index.specs.declared.readers_of.ReaderOf.{ReaderOf}
use Rattle.dict_meaning.specs.Weights.{slot_weight}
use Rattle.visit_counts.specs.SlotVisits.{slot_visits}
use Rattle.recalc.specs.Propagations.{setting_of, spread_of}
use Rattle.recalc.specs.Running.{IsPopped, IsRunning, slot_of}
use Rattle.dirty_slots.specs.Waiting.{Queue, waits}
use Rattle.dirty_slots.specs.declared.dirty_slot.DirtySlot.{DirtySlot}
use Rattle.recalc.specs.declared.engine_state.EngineState.{EngineState}
use Rattle.recalc.proofs.RunningLaws.{ended_new, fewer, popped_below, popped_new, popped_number, popped_stands, done_more, steps_ended, steps_within, still_running, visits_ended}
use Rattle.recalc.proofs.running.run.Goals as goal

pub turn-requires-clause-stands : goal.turn-requires-clause-stands
turn-requires-clause-stands g c =
    let pop : IsPopped c.loop-dirty.state.queue c.pop.new.self c.in-Some.dirty = record { some = c.in-Some.ensures.some; rest = c.in-Some.ensures.rest; least = c.in-Some.ensures.least } in
    popped_stands (setting_of c.args.propagation.now) (spread_of c.args.propagation.now) c.args.state.now.store.cells c.requires.propagation c.loop-dirty.state c.loop-dirty.invariant.running c.pop.new.self c.in-Some.dirty pop

pub turn-requires-clause-stay : goal.turn-requires-clause-stay
turn-requires-clause-stay g c =
    let pop : IsPopped c.loop-dirty.state.queue c.pop.new.self c.in-Some.dirty = record { some = c.in-Some.ensures.some; rest = c.in-Some.ensures.rest; least = c.in-Some.ensures.least } in
    c.requires.propagation.stay (slot_of c.in-Some.dirty)
    (popped_stands (setting_of c.args.propagation.now) (spread_of c.args.propagation.now) c.args.state.now.store.cells c.requires.propagation c.loop-dirty.state c.loop-dirty.invariant.running c.pop.new.self c.in-Some.dirty pop)

pub turn-requires-clause-below : goal.turn-requires-clause-below
turn-requires-clause-below g c =
    let pop : IsPopped c.loop-dirty.state.queue c.pop.new.self c.in-Some.dirty = record { some = c.in-Some.ensures.some; rest = c.in-Some.ensures.rest; least = c.in-Some.ensures.least } in
    popped_below (setting_of c.args.propagation.now) (spread_of c.args.propagation.now) c.args.state.now.store.cells c.requires.propagation c.loop-dirty.state c.loop-dirty.invariant.running c.pop.new.self c.in-Some.dirty pop

pub turn-requires-clause-fresh : goal.turn-requires-clause-fresh
turn-requires-clause-fresh g c =
    let pop : IsPopped c.loop-dirty.state.queue c.pop.new.self c.in-Some.dirty = record { some = c.in-Some.ensures.some; rest = c.in-Some.ensures.rest; least = c.in-Some.ensures.least } in
    popped_new (setting_of c.args.propagation.now) (spread_of c.args.propagation.now) c.args.state.now.store.cells c.requires.propagation c.loop-dirty.state c.loop-dirty.invariant.running c.pop.new.self c.in-Some.dirty pop

pub loop-dirty-preserved : goal.loop-dirty-preserved
loop-dirty-preserved g c =
    let k = setting_of c.args.propagation.now in
    let s = spread_of c.args.propagation.now in
    let first = c.args.state.now.store.cells in
    let dirty = c.in-Some.dirty in
    let rs : List ReaderOf = readers_of c.args.graph.now.readers dirty.fact in
    let pop : IsPopped c.loop-dirty.state.queue c.pop.new.self dirty = record { some = c.in-Some.ensures.some; rest = c.in-Some.ensures.rest; least = c.in-Some.ensures.least } in
    let are = c.requires.graph.index.each dirty.fact (popped_number k s first c.requires.propagation c.loop-dirty.state c.loop-dirty.invariant.running c.pop.new.self dirty pop) in
    let more = done_more k s first c.requires.propagation c.loop-dirty.state c.loop-dirty.invariant.running c.pop.new.self dirty pop rs are c.turn.new.state c.in_ok-turn.ensures.turned in
    record {
      running = still_running k s first c.requires.propagation c.loop-dirty.state c.loop-dirty.invariant.running c.pop.new.self dirty pop rs are c.turn.new.state c.in_ok-turn.ensures.turned;
      undo = c.turn.ensures.undo ∙ c.loop-dirty.invariant.undo;
      can = c.turn.ensures.can c.loop-dirty.invariant.can;
      places = c.turn.ensures.places ∙ c.pop.ensures.places ∙ c.loop-dirty.invariant.places;
      visits = omega (arith, more (slot_visits k.dict k.now), c.in_ok-turn.ensures.visits, c.loop-dirty.invariant.visits);
      most = omega (arith, more (slot_weight k.dict k.now), c.turn.ensures.most, c.loop-dirty.invariant.most);
    }

pub returns-in_err-turn-clause-most : goal.returns-in_err-turn-clause-most
returns-in_err-turn-clause-most g c =
    let pop : IsPopped c.loop-dirty.state.queue c.pop.new.self c.in-Some.dirty = record { some = c.in-Some.ensures.some; rest = c.in-Some.ensures.rest; least = c.in-Some.ensures.least } in
    steps_within (setting_of c.args.propagation.now) (spread_of c.args.propagation.now) c.args.state.now.store.cells c.requires.propagation c.loop-dirty.state c.loop-dirty.invariant.running c.pop.new.self c.in-Some.dirty pop
    c.args.steps.now c.loop-dirty.steps c.turn.new.steps c.loop-dirty.invariant.most c.turn.ensures.most

pub loop-dirty-smaller : goal.loop-dirty-smaller
loop-dirty-smaller g c =
    let k = setting_of c.args.propagation.now in
    let s = spread_of c.args.propagation.now in
    let first = c.args.state.now.store.cells in
    let dirty = c.in-Some.dirty in
    let rs : List ReaderOf = readers_of c.args.graph.now.readers dirty.fact in
    let pop : IsPopped c.loop-dirty.state.queue c.pop.new.self dirty = record { some = c.in-Some.ensures.some; rest = c.in-Some.ensures.rest; least = c.in-Some.ensures.least } in
    let are = c.requires.graph.index.each dirty.fact (popped_number k s first c.requires.propagation c.loop-dirty.state c.loop-dirty.invariant.running c.pop.new.self dirty pop) in
    fewer k s first c.requires.propagation c.loop-dirty.state c.loop-dirty.invariant.running c.pop.new.self dirty pop rs are c.turn.new.state c.in_ok-turn.ensures.turned

pub returns-clause-done : goal.returns-clause-done
returns-clause-done g c =
    let k = setting_of c.args.propagation.now in
    let s = spread_of c.args.propagation.now in
    let first = c.args.state.now.store.cells in
    let state : EngineState = record c.loop-dirty.state { queue = c.pop.new.self } in
    let running : IsRunning k s first state =
    subst (λ (queue : Queue). IsRunning k s first (record c.loop-dirty.state { queue = queue })) (sym c.in_default.ensures.unchanged) c.loop-dirty.invariant.running in
    let none : (q : DirtySlot) → waits c.pop.new.self q ≡ false = (λ q. ap (λ (queue : Queue). waits queue q) c.in_default.ensures.unchanged ∙ c.in_default.ensures.none q) in
    record {
      running = running;
      none = none;
      results = ended_new k s first c.requires.propagation state running none;
    }

pub returns-clause-visits : goal.returns-clause-visits
returns-clause-visits g c =
    visits_ended (setting_of c.args.propagation.now) (spread_of c.args.propagation.now) c.args.state.now.store.cells c.requires.propagation c.loop-dirty.state c.loop-dirty.invariant.running c.in_default.ensures.none
    c.args.steps.now c.loop-dirty.steps c.loop-dirty.invariant.visits

pub returns-clause-most : goal.returns-clause-most
returns-clause-most g c =
    steps_ended (setting_of c.args.propagation.now) (spread_of c.args.propagation.now) c.args.state.now.store.cells c.requires.propagation c.loop-dirty.state c.loop-dirty.invariant.running c.args.steps.now c.loop-dirty.steps c.loop-dirty.invariant.most
