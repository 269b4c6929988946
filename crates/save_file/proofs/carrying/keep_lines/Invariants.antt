-- What the lines that are left make of the answers and of the numbers is what all make.
use Rattle.save_file.proofs.Common.{answered, drop, entered, keeps, kept_value, line_of, map, numbers_failing, rules, tree_of, ◌++◌, ◌+◌, ◌≡◌}
use Rattle.save_file.proofs.carrying.keep_lines.Given as goal

abbrev pub invariant-loop-line : goal.invariant-loop-line
invariant-loop-line g l = record {
  entered_all : entered (tree_of (rules l.dict)) (kept_value (rules l.dict)) (answered l.carried.answers) (map line_of (drop l.line-index l.lines)) ≡ entered (tree_of (rules l.dict)) (kept_value (rules l.dict)) (answered l.fn.carried.answers) (map line_of l.lines);
  all : l.carried.dropped.items ++ numbers_failing (keeps (rules l.dict)) l.number (map line_of (drop l.line-index l.lines)) ≡ l.fn.carried.dropped.items ++ numbers_failing (keeps (rules l.dict)) 3 (map line_of l.lines);
  lists : (answered l.carried.answers).lists ≡ (answered l.fn.carried.answers).lists;
  number : l.number ≡ 3 + l.line-index;
}
