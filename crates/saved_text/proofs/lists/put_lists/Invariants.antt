use Rattle.saved_text.proofs.Common.{accepted, answered, counted, flat_map, list_lines, lists_lines as lists, suc, ◌-◌}
use Rattle.saved_text.proofs.LinesLeft.{LinesLeft}
use Rattle.saved_text.proofs.lists.put_lists.Given as goal

abbrev pub invariant-loop-done : goal.invariant-loop-done
invariant-loop-done g l =
    LinesLeft (g.K.Sink.output l.fn.out) (g.K.Sink.output l.out) (lists (accepted l.dict).tree (answered l.answers))
    (flat_map (list_lines (accepted l.dict).tree (answered l.answers)) (counted (suc l.done) (l.count - l.done)))

abbrev pub decreases-loop-done : goal.decreases-loop-done
decreases-loop-done g l = l.count - l.done
