use Rattle.std.proofs.Common.{◌+◌, ℕ, List, drop, sym, ◌∙◌}
use Rattle.std.proofs.lemmas.List.{at_drop_more}
use Rattle.recalc.specs.EngineInvariant.{without_member}
use Rattle.recalc.proofs.ForgettingLaws.{without_one}
use Rattle.recalc.proofs.forgetting.forget_member.Goals as goal

pub loop-fact-preserved : goal.loop-fact-preserved
loop-fact-preserved c = λ s.
    let i = c.loop-fact.fact-index in
    let rest : List ℕ = drop (i + 1) c.args.facts.now in
    without_one c.loop-fact.store.cells c.forget_one.new.store.cells _ c.args.member rest c.forget_one.ensures s
    ∙ sym (at_drop_more (λ (fs : List ℕ). without_member c.loop-fact.store.cells c.args.member fs s) c.args.facts.now i _ c.loop-fact-test.true)
    ∙ c.loop-fact.invariant s
