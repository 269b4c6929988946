-- The nodes so far, with those of what is left, are all.
use Rattle.std.proofs.Common.{◌≡◌, ◌+◌, drop}
use Rattle.dict_source.specs.Tree.{size_of_cases, size_of_trees}
use Rattle.dict_source.specs.View.{cases_view, trees_view}
use Rattle.dictionary.proofs.sizes.+sizes.Given as goal

abbrev pub invariant-with_all-loop-expr : goal.invariant-with_all-loop-expr
invariant-with_all-loop-expr l = l.count + size_of_trees (trees_view (drop l.expr-index l.exprs)) ≡ l.so_far + size_of_trees (trees_view l.exprs)

abbrev pub invariant-with_cases-loop-case : goal.invariant-with_cases-loop-case
invariant-with_cases-loop-case l = l.count + size_of_cases (cases_view (drop l.case-index l.cases)) ≡ l.so_far + size_of_cases (cases_view l.cases)
