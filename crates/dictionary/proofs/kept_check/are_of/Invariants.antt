-- What is left is the same just where all is.
use Rattle.std.proofs.Common.{◌≡◌, ℕ, List, drop, map}
use Rattle.dictionary.specs.Checks.{same_checks}
use Rattle.dictionary.proofs.kept_check.are_of.Given as goal

abbrev pub invariant-loop-i : goal.invariant-loop-i
invariant-loop-i g l = same_checks (drop l.i l.kept) (map {B = List ℕ × ℕ} (λ c. (c.name, c.code)) (drop l.i l.checks)) ≡ same_checks l.kept (map {B = List ℕ × ℕ} (λ c. (c.name, c.code)) l.checks)
