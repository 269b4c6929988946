-- What the lines that are left make of the answers is what all make.
use Rattle.save_file.proofs.Common.{answered, drop, entered, line_of, map, rules, taken_value, tree_of, ◌≡◌}
use Rattle.save_file.proofs.entering.enter_all.Given as goal

abbrev pub invariant-loop-line : goal.invariant-loop-line
invariant-loop-line l = record {
  entered_all : entered (tree_of (rules l.dict)) (taken_value (tree_of (rules l.dict))) (answered l.answers) (map line_of (drop l.line-index l.lines))
      ≡ entered (tree_of (rules l.dict)) (taken_value (tree_of (rules l.dict))) (answered l.fn.answers) (map line_of l.lines);
  lists : (answered l.answers).lists ≡ (answered l.fn.answers).lists;
}
