-- What is left is steady just where all is.
use Rattle.std.proofs.Common.{◌≡◌, drop}
use Rattle.dict_source.specs.Dictionary.{dictionary_view}
use Rattle.dict_source.specs.View.{cases_view, trees_view}
use Rattle.dictionary.specs.SteadyDependencies.{known_at, steady_cases, steady_trees}
use Rattle.dictionary.proofs.steady.+steady.Given as goal

abbrev pub invariant-are_steady-loop-expr : goal.invariant-are_steady-loop-expr
invariant-are_steady-loop-expr l = steady_trees (dictionary_view l.source) (known_at l.known) l.fact l.base (trees_view (drop l.expr-index l.exprs)) ≡ steady_trees (dictionary_view l.source) (known_at l.known) l.fact l.base (trees_view l.exprs)

abbrev pub invariant-are_cases_steady-loop-case : goal.invariant-are_cases_steady-loop-case
invariant-are_cases_steady-loop-case l = steady_cases (dictionary_view l.source) (known_at l.known) l.fact l.base (cases_view (drop l.case-index l.cases)) ≡ steady_cases (dictionary_view l.source) (known_at l.known) l.fact l.base (cases_view l.cases)
