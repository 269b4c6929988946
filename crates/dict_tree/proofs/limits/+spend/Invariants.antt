use Rattle.std.proofs.Common.{◌≡◌, ◌+◌, drop}
use Rattle.dict_source.specs.Tree.{size_of_trees, size_of_cases}
use Rattle.dict_source.specs.View.{trees_view, cases_view}
use Rattle.dict_tree.proofs.limits.+spend.Given as goal

-- the rest, with the nodes so far, is what there was
abbrev pub invariant-spend_all-loop-expr : goal.invariant-spend_all-loop-expr
invariant-spend_all-loop-expr l = l.rest + size_of_trees (trees_view l.exprs) ≡ l.left + size_of_trees (trees_view (drop l.expr-index l.exprs))

abbrev pub invariant-spend_cases-loop-case : goal.invariant-spend_cases-loop-case
invariant-spend_cases-loop-case l = l.rest + size_of_cases (cases_view l.cases) ≡ l.left + size_of_cases (cases_view (drop l.case-index l.cases))
