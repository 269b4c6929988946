use Rattle.std.proofs.Common.{◌≡◌, map, take}
use Rattle.dictionary.specs.AcceptedParts.{accepted}
use Rattle.dict_meaning.specs.Plain.{plain}
use Rattle.fact_watch.specs.Watching.{Watch}
use Rattle.fact_watch.proofs.watches.Watches.note.Given as goal

abbrev pub invariant-loop-slot : goal.invariant-loop-slot
invariant-loop-slot g l = l.notes.items ≡ map (λ (p : Watch). plain (accepted l.session.dict) l.session.timeline.now p.1) (take l.slot-index l.slot-items)
