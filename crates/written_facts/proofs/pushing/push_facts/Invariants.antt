-- The source takes the facts that are left, and with them has all.
use Rattle.std.proofs.Common.{◌≡◌, IsTrue, drop}
use Rattle.dict_source.specs.Dictionary.{dictionary_view}
use Rattle.written_facts.specs.Figures.{figures_view}
use Rattle.written_facts.specs.WrittenFacts.{written_views}
use Rattle.written_facts.specs.Taking.{takes_all, with_facts}
use Rattle.written_facts.proofs.pushing.push_facts.Given as goal

abbrev pub invariant-loop-written : goal.invariant-loop-written
invariant-loop-written l = record {
  taken : IsTrue (takes_all (dictionary_view l.source) (drop l.written-index (written_views (figures_view l.fn.figures) l.facts)));
  all : with_facts (dictionary_view l.source) (drop l.written-index (written_views (figures_view l.fn.figures) l.facts)) ≡ with_facts (dictionary_view l.initial.source) (written_views (figures_view l.fn.figures) l.facts);
}
