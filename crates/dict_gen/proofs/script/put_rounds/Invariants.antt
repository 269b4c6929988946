use Rattle.std.proofs.Common.{◌≡◌, ◌++◌}
use Rattle.script_lines.specs.Joined.{joined}
use Rattle.dict_gen.specs.Script.{rounds}
use Rattle.dict_gen.proofs.script.put_rounds.Given as goal

abbrev pub invariant-loop-before : goal.invariant-loop-before
invariant-loop-before l = l.script.items ≡ l.initial.script.items ++ joined (rounds l.members l.n l.before)
