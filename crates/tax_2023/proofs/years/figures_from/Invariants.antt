-- The figures, and the lines that are left, are all.
use Rattle.std.proofs.Common.{◌≡◌, ◌++◌, drop, map}
use Rattle.written_facts.specs.Figures.{figures_view}
use Rattle.tax_2023.proofs.years.figures_from.Given as goal

abbrev pub invariant-loop-name : goal.invariant-loop-name
invariant-loop-name l = figures_view l.figures.items ++ map (λ f. (f.0.now, f.1.now)) (drop l.name-index l.lines) ≡ map (λ f. (f.0.now, f.1.now)) l.lines
