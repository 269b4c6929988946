use Rattle.std.proofs.Common.{◌≡◌, drop}
use Rattle.std.specs.List.{position_from}
use Rattle.std.specs.Str.{bytes_eq}
use Rattle.text_checks.specs.Places.{place_of}
use Rattle.text_checks.proofs.check.CheckTable.find.Given as goal

abbrev pub invariant-loop-place : goal.invariant-loop-place
invariant-loop-place g l = place_of l.self.checks.items (λ c. c.name) l.name ≡ position_from (λ c. bytes_eq c.name l.name) l.place (drop l.place l.self.checks.items)
