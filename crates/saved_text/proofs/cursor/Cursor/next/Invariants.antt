use Rattle.saved_text.proofs.Common.{accepted, answered, length, slots_left, ◌-◌, ◌≡◌}
use Rattle.saved_text.proofs.cursor.Cursor.next.Given as goal

abbrev pub invariant-loop-self : goal.invariant-loop-self
invariant-loop-self l = slots_left (accepted l.dict).tree (answered l.answers) l.fn.self ≡ slots_left (accepted l.dict).tree (answered l.answers) l.self

abbrev pub decreases-loop-self : goal.decreases-loop-self
decreases-loop-self l = length (accepted l.dict).tree.facts - l.self.done
