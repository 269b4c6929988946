use Rattle.std.proofs.Common.{◌∙◌, ap, sym}
use Rattle.recalc.specs.EngineInvariant.{results_of}
use Rattle.recalc.specs.Sharing.{read_cells}
use Rattle.recalc.proofs.SharingLaws.{read_results}
use Rattle.recalc.proofs.recalc.RecalcFactEngine.result.Goals as goal

pub returns-in-Shared : goal.returns-in-Shared
returns-in-Shared c = λ d a are.
    (rw c.deref.ensures at c.get.ensures)
    ∙ sym (ap (λ cells. results_of (read_cells cells) c.args.slot) c.in-Shared.is)
    ∙ read_results c.args.self.now.cells c.args.self.now.graph.value d a are c.args.slot

pub returns-in-Own : goal.returns-in-Own
returns-in-Own c = λ d a are.
    c.get-in-Own.ensures
    ∙ sym (ap (λ cells. results_of (read_cells cells) c.args.slot) c.in-Own.is)
    ∙ read_results c.args.self.now.cells c.args.self.now.graph.value d a are c.args.slot
