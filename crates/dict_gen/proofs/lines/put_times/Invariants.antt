use Rattle.std.proofs.Common.{◌≡◌, ◌++◌, replicate}
use Rattle.script_lines.specs.Joined.{joined}
use Rattle.dict_gen.proofs.lines.put_times.Given as goal

abbrev pub invariant-loop-n : goal.invariant-loop-n
invariant-loop-n l = l.script.items ≡ l.initial.script.items ++ joined (replicate l._n l.line)
