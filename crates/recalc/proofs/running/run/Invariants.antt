use Rattle.std.proofs.Common.{◌≡◌, ◌+◌, ◌-◌, ◌≤◌, length, sum_by}
use Rattle.answers.specs.Meaning.{answered}
use Rattle.dictionary.specs.AcceptedParts.{accepted}
use Rattle.dict_meaning.specs.Weights.{slot_weight}
use Rattle.visit_counts.specs.SlotVisits.{slot_visits}
use Rattle.recalc.specs.Propagations.{setting_of, spread_of}
use Rattle.recalc.specs.Laws.{touched_of}
use Rattle.recalc.specs.Replacing.{before, CanPutBack, entries}
use Rattle.recalc.specs.Running.{IsRunning, slots_done}
use Rattle.recalc.proofs.running.run.Given as goal

abbrev pub invariant-loop-dirty : goal.invariant-loop-dirty
invariant-loop-dirty g l = record {
  running : IsRunning (setting_of l.propagation) (spread_of l.propagation) l.initial.state.store.cells l.state;
  undo : before (entries l.state.log) l.state.store.cells ≡ l.initial.state.store.cells;
  can : CanPutBack (entries l.state.log) l.state.store.cells;
  places : l.state.queue.places ≡ l.initial.state.queue.places;
  visits : l.steps ≡ l.initial.steps + sum_by (slot_visits (accepted l.propagation.dict.now) (answered l.propagation.answers.now)) (slots_done l.state);
  most : l.steps ≤ l.initial.steps + sum_by (slot_weight (accepted l.propagation.dict.now) (answered l.propagation.answers.now)) (slots_done l.state);
}

-- the touched slots that are left
abbrev pub decreases-loop-dirty : goal.decreases-loop-dirty
decreases-loop-dirty g l = length (touched_of (spread_of l.propagation)) - length (entries l.state.log)
