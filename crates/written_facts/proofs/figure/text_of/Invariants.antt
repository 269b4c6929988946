-- The figures that are left have the text.
use Rattle.std.proofs.Common.{◌≡◌, drop}
use Rattle.written_facts.specs.Figures.{figures_view, text_under}
use Rattle.written_facts.proofs.figure.text_of.Given as goal

abbrev pub invariant-loop-figure : goal.invariant-loop-figure
invariant-loop-figure l = text_under (figures_view (drop l.figure-index l.figures)) l.name ≡ text_under (figures_view l.figures) l.name
