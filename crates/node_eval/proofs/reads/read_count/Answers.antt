use Rattle.std.proofs.Common.{ap}
use Rattle.operations.proofs.FieldLaws.{count_from-start}
use Rattle.operations.specs.FieldFolds.{FieldsCounted}
use Rattle.node_eval.specs.Dependencies.{collection, field}
use Rattle.node_eval.proofs.reads.read_count.Goals as goal

pub loop-member-init : goal.loop-member-init
loop-member-init g c =
    let results = g.C.Cells.results c.args.cells.now in
    let law = count_from-start (collection results c.args.path) (field results c.args.path) in
    record {
      value = cc;
      count = ap (λ (f : FieldsCounted). f.count) c.new-fold.ensures;
    }
