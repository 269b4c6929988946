use Rattle.std.proofs.Common.{◌≡◌, [], map, drop, sym, ap, ◌∙◌}
use Rattle.std.proofs.lemmas.List.{drop_all}
use Rattle.operations.specs.ManyFolds.{many_from}
use Rattle.node_eval.specs.Globals.{global_result}
use Rattle.node_eval.proofs.globals.see_globals.Goals as goal

pub returns-clause-value : goal.returns-clause-value
returns-clause-value g c =
    let results = g.C.Cells.results c.args.cells.now in
    let none : drop c.loop-fact.fact-index c.args.facts.now ≡ [] = drop_all c.loop-fact.fact-index c.args.facts.now c.loop-fact-test.false in
    c.end.ensures.value
    ∙ sym (ap (λ l. many_from c.loop-fact.fold (map (global_result results) l)) none)
    ∙ c.loop-fact.invariant.value
