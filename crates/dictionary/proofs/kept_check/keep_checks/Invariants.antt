-- The checks so far, with those that are left, are all.
use Rattle.std.proofs.Common.{◌≡◌, ◌++◌, ℕ, List, drop, map}
use Rattle.text_checks.specs.Tables.{named_checks}
use Rattle.dictionary.proofs.kept_check.keep_checks.Given as goal

abbrev pub invariant-loop-check : goal.invariant-loop-check
invariant-loop-check g l = l.list.items ++ map {B = List ℕ × ℕ} (λ c. (c.name, c.code)) (drop l.check-index l.checks.checks.items) ≡ named_checks l.checks
