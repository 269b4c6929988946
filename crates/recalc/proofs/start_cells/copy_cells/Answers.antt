use Rattle.std.proofs.Common.{◌+◌, ℕ, List, drop, sym, ◌∙◌}
use Rattle.std.proofs.lemmas.List.{at_drop_more}
use Rattle.recalc.specs.Sharing.{with_copies}
use Rattle.recalc.proofs.SharingLaws.{copy_one}
use Rattle.recalc.proofs.start_cells.copy_cells.Goals as goal

pub loop-fact-preserved : goal.loop-fact-preserved
loop-fact-preserved c = λ s.
    let i = c.loop-fact.fact-index in
    let rest : List ℕ = drop (i + 1) c.args.facts.now in
    copy_one c.args.from.now.cells c.loop-fact.store.cells c.copy_cell.new.store.cells _ rest c.in_ok-copy_cell.ensures s
    ∙ sym (at_drop_more (λ (fs : List ℕ). with_copies c.args.from.now.cells fs c.loop-fact.store.cells s) c.args.facts.now i _ c.loop-fact-test.true)
    ∙ c.loop-fact.invariant s
