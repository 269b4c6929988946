use Rattle.std.proofs.Common.{◌≤◌, drop}
use Rattle.dict_source.specs.Tree.{depth_of_trees, depth_of_cases}
use Rattle.dict_source.specs.View.{trees_view, cases_view}
use Rattle.dict_tree.proofs.limits.+within.Given as goal

-- the whole is within the depth just where what is left is
abbrev pub invariant-are_within-loop-expr : goal.invariant-are_within-loop-expr
invariant-are_within-loop-expr l = record {
  up : depth_of_trees (trees_view (drop l.expr-index l.exprs)) ≤ l.most → depth_of_trees (trees_view l.exprs) ≤ l.most;
  down : depth_of_trees (trees_view l.exprs) ≤ l.most → depth_of_trees (trees_view (drop l.expr-index l.exprs)) ≤ l.most;
}

abbrev pub invariant-are_cases_within-loop-case : goal.invariant-are_cases_within-loop-case
invariant-are_cases_within-loop-case l = record {
  up : depth_of_cases (cases_view (drop l.case-index l.cases)) ≤ l.most → depth_of_cases (cases_view l.cases) ≤ l.most;
  down : depth_of_cases (cases_view l.cases) ≤ l.most → depth_of_cases (cases_view (drop l.case-index l.cases)) ≤ l.most;
}
