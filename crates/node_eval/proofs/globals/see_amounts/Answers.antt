use Rattle.std.proofs.Common.{◌≡◌, [], ℕ, Some, None, drop, map, ap, ◌∙◌, arith}
use Rattle.std.specs.Prelude.{slice_index}
use Rattle.std.proofs.lemmas.List.{drop_all}
use Rattle.three_state.specs.declared.res.Res.{Res}
use Rattle.three_state.specs.declared.res.Res.TheVariants.{Complete}
use Rattle.fact_values.specs.declared.value.Value.TheVariants as value
use Rattle.node_eval.specs.Globals.{amount_of, global_result, leading}
use Rattle.node_eval.proofs.FrontLaws.{amount_is, no_more, one_more, one_seen}
use Rattle.node_eval.proofs.globals.see_amounts.Goals as goal

pub returns-in_default-clause-front : goal.returns-in_default-clause-front
returns-in_default-clause-front g c =
    let result : ℕ → Res = global_result (g.C.Cells.results c.args.cells.now) in
    let none : None ≡ amount_of (result (slice_index c.args.facts.now c.loop-seen.seen)) = cc in
    omega (arith, c.loop-seen.invariant.front, no_more amount_of result c.args.facts.now c.loop-seen.seen c.loop-seen-test.true none)

pub loop-seen-preserved : goal.loop-seen-preserved
loop-seen-preserved g c =
    let result : ℕ → Res = global_result (g.C.Cells.results c.args.cells.now) in
    let some : Some c.in-Some.amount ≡ amount_of (result (slice_index c.args.facts.now c.loop-seen.seen)) = c.in-Some.ensures in
    record {
      seen = one_seen result c.args.facts.now c.loop-seen.seen c.loop-seen.run c.see_amount.new.self (Complete (value.Dollar c.in-Some.amount)) c.loop-seen-test.true c.see_amount.ensures.seen (amount_is _ _ some) ∙ c.loop-seen.invariant.seen;
      count = omega (arith, ap (λ s. s.count) c.see_amount.ensures.seen, c.loop-seen.invariant.count);
      amounts = c.see_amount.ensures.amounts;
      front = omega (arith, c.loop-seen.invariant.front, one_more amount_of result c.args.facts.now c.loop-seen.seen c.in-Some.amount c.loop-seen-test.true some);
      within = omega (arith, c.loop-seen-test.true);
      steps = omega (arith, c.tick.ensures, c.loop-seen.invariant.steps);
    }

pub returns-clause-front : goal.returns-clause-front
returns-clause-front g c =
    let result : ℕ → Res = global_result (g.C.Cells.results c.args.cells.now) in
    let none : drop c.loop-seen.seen c.args.facts.now ≡ [] = drop_all c.loop-seen.seen c.args.facts.now c.loop-seen-test.false in
    omega (arith, c.loop-seen.invariant.front, ap (λ l. leading amount_of (map result l)) none)
