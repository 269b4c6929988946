use Rattle.std.proofs.Common.{option_map, ◌∙◌, ap, sym}
use Rattle.std.specs.FinMap as finite
use Rattle.cell_store.specs.declared.cell.Cell.{Cell}
use Rattle.recalc.specs.Sharing.{read_cells}
use Rattle.recalc.specs.declared.engine_cells.EngineCells.{EngineCells}
use Rattle.recalc.proofs.EngineLaws.{stamp_where}
use Rattle.recalc.proofs.SharingLaws.{read_results}
use Rattle.recalc.proofs.recalc.RecalcFactEngine.stamp.Goals as goal

pub returns-in-Shared : goal.returns-in-Shared
returns-in-Shared c = λ d a are.
    let all = c.args.self.now.cells in
    (rw c.deref.ensures at c.stamp.ensures)
    ∙ sym (ap (λ (m : EngineCells). option_map (λ (x : Cell). x.stamp) (finite.get (read_cells m) c.args.slot)) c.in-Shared.is)
    ∙ stamp_where d a (read_cells all) c.args.slot (read_results all c.args.self.now.graph.value d a are c.args.slot)

pub returns-in-Own : goal.returns-in-Own
returns-in-Own c = λ d a are.
    let all = c.args.self.now.cells in
    c.stamp-in-Own.ensures
    ∙ sym (ap (λ (m : EngineCells). option_map (λ (x : Cell). x.stamp) (finite.get (read_cells m) c.args.slot)) c.in-Own.is)
    ∙ stamp_where d a (read_cells all) c.args.slot (read_results all c.args.self.now.graph.value d a are c.args.slot)
