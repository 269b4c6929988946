-- The numbers from here on repeat none exactly where the whole list repeats none.
use Rattle.std.proofs.Common.{◌≡◌, drop}
use Rattle.fact_values.specs.Members.{are_distinct as distinct}
use Rattle.fact_values.proofs.members.are_distinct.Given as goal

abbrev pub invariant-loop-i : goal.invariant-loop-i
invariant-loop-i l = distinct (drop l.i l.list) ≡ distinct l.list
