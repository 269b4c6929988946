-- The years that are left have the word.
use Rattle.std.proofs.Common.{◌≡◌, drop, map}
use Rattle.fact_json.specs.Names.{under_name}
use Rattle.tax_2023.proofs.years.year_under.Given as goal

abbrev pub invariant-loop-name : goal.invariant-loop-name
invariant-loop-name l = under_name l.word (map (λ y. (y.0.now, y.1)) (drop l.name-index l.years)) ≡ under_name l.word (map (λ y. (y.0.now, y.1)) l.years)
