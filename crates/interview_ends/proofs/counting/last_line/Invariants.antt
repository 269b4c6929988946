use Rattle.std.proofs.Common.{◌≡◌, [], length}
use Rattle.script_lines.specs.Lines.{lines_of}
use Rattle.interview_ends.specs.Summary.{last_of}
use Rattle.interview_ends.proofs.counting.last_line.Given as goal

abbrev pub invariant-loop-last : goal.invariant-loop-last
invariant-loop-last l = last_of l.last (lines_of l.rest) ≡ last_of [] (lines_of l.fn.text)

abbrev pub decreases-loop-last : goal.decreases-loop-last
decreases-loop-last l = length l.rest
