use Rattle.std.proofs.Common.{◌≡◌, drop}
use Rattle.fact_json.specs.Profile.{one_uses_law, case_uses_law}
use Rattle.dict_source.specs.View.{trees_view, cases_view}
use Rattle.fact_json.proofs.profile.+law.Given as goal

abbrev pub invariant-one_uses_law-loop-expr : goal.invariant-one_uses_law-loop-expr
invariant-one_uses_law-loop-expr l = one_uses_law (trees_view (drop l.expr-index l.exprs)) ≡ one_uses_law (trees_view l.exprs)

abbrev pub invariant-case_uses_law-loop-case : goal.invariant-case_uses_law-loop-case
invariant-case_uses_law-loop-case l = case_uses_law (cases_view (drop l.case-index l.cases)) ≡ case_uses_law (cases_view l.cases)
