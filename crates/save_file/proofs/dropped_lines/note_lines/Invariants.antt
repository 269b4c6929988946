-- What is noted so far, with what is dropped of the lines that are left, is all.
use Rattle.save_file.proofs.Common.{drop, dropped_from, dropped_line, line_of, map, rules, ◌++◌, ◌+◌, ◌≡◌}
use Rattle.save_file.proofs.dropped_lines.note_lines.Given as goal

abbrev pub invariant-loop-line : goal.invariant-loop-line
invariant-loop-line g l = record {
  all : map dropped_line l.dropped.items ++ dropped_from (rules l.dict) l.number (map line_of (drop l.line-index l.lines)) ≡ map dropped_line l.fn.dropped.items ++ dropped_from (rules l.dict) 3 (map line_of l.lines);
  number : l.number ≡ 3 + l.line-index;
}
