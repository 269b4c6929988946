-- What is given so far, with what the other facts are given, is all.
use Rattle.save_file.proofs.Common.{counted, flat_map, line_of, map, opened, opened_at, rules, suc, tree_of, ◌++◌, ◌-◌, ◌≡◌}
use Rattle.save_file.proofs.opening.given_lists.Given as goal

abbrev pub invariant-loop-done : goal.invariant-loop-done
invariant-loop-done l = l.given.items ++ flat_map (opened_at (tree_of (rules l.dict)) (map line_of l.lines)) (counted (suc l.done) (l.count - l.done)) ≡ opened (tree_of (rules l.dict)) (map line_of l.lines)

abbrev pub decreases-loop-done : goal.decreases-loop-done
decreases-loop-done l = l.count - l.done
