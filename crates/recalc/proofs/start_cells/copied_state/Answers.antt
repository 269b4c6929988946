use Rattle.std.proofs.Common.{◌≡◌, sym, subst}
use Rattle.std.proofs.lemmas.Result.{IfOk-weaker}
use Rattle.cell_store.specs.declared.store.Store.{Store}
use Rattle.dictionary.specs.AcceptedParts.{accepted, names_of}
use Rattle.recalc.specs.Sharing.{AreAtStart}
use Rattle.recalc.specs.declared.engine_state.EngineState.{EngineState}
use Rattle.recalc.proofs.SharingLaws.{copies_are_at_start}
use Rattle.recalc.proofs.start_cells.copied_state.Goals as goal

pub returns-clause-cells : goal.returns-clause-cells
returns-clause-cells c =
    let copied =
    copies_are_at_start (names_of c.args.dict.now.checks) (accepted c.args.dict.now) c.source-source.ensures.is_accepted c.by_rank.result.now c.by_rank.ensures
    c.args.from.now.cells c.requires c.in_ok-store.store.cells c.in_ok-store.ensures.cells c.copy_cells.new.store.cells c.in_ok-copy_cells.ensures in
    IfOk-weaker c.new.result (λ (state : EngineState). state.store ≡ c.copy_cells.new.store) (λ (state : EngineState). AreAtStart (accepted c.args.dict.now) state.store.cells)
    (λ state same. subst (λ (store : Store). AreAtStart (accepted c.args.dict.now) store.cells) (sym same) copied)
    c.new.ensures.cells
