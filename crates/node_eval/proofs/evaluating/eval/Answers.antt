use Rattle.node_eval.proofs.MemoryLaws.{typed-takes_memory}
use Rattle.node_eval.specs.View.{view}
use Rattle.node_eval.proofs.evaluating.eval.Goals as goal

pub returns-clause-memory : goal.returns-clause-memory
returns-clause-memory g c =
    λ h d facts typed. typed-takes_memory d facts (g.C.Cells.results c.args.cells.now) (record { own = c.args.own; inner = c.args.inner }) (view c.args.node.now) typed (c.visit.ensures.memory h)
