use Rattle.saved_text.proofs.Common.{accepted, answered, entries, entry_lines, flat_map, length, slots_left}
use Rattle.saved_text.proofs.LinesLeft.{LinesLeft}
use Rattle.saved_text.proofs.entries.put_entries.Given as goal

abbrev pub invariant-loop-slot : goal.invariant-loop-slot
invariant-loop-slot g l =
    LinesLeft (g.K.Sink.output l.fn.out) (g.K.Sink.output l.out) (entries l.side (accepted l.dict).tree (answered l.answers))
    (flat_map (entry_lines l.side (accepted l.dict).tree (answered l.answers)) (slots_left (accepted l.dict).tree (answered l.answers) l.cursor))

abbrev pub decreases-loop-slot : goal.decreases-loop-slot
decreases-loop-slot g l = length (slots_left (accepted l.dict).tree (answered l.answers) l.cursor)
