use Rattle.std.proofs.Common.{◌≡◌, drop}
use Rattle.std.specs.List.{position_from}
use Rattle.std.specs.Str.{bytes_eq}
use Rattle.text_checks.specs.Places.{place_of}
use Rattle.fact_watch.proofs.relation.WatchTable.find.Given as goal

abbrev pub invariant-loop-place : goal.invariant-loop-place
invariant-loop-place g l = place_of l.self.relations.items (λ r. r.name) l.name ≡ position_from (λ r. bytes_eq r.name l.name) l.place (drop l.place l.self.relations.items)
