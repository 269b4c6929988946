use Rattle.std.proofs.Common.{ap}
use Rattle.operations.proofs.FieldLaws.{sum_from-start}
use Rattle.operations.specs.FieldFolds.{FieldsSummed}
use Rattle.node_eval.specs.Dependencies.{collection, field}
use Rattle.node_eval.proofs.reads.read_sum.Goals as goal

pub loop-member-init : goal.loop-member-init
loop-member-init g c =
    let results = g.C.Cells.results c.args.cells.now in
    let law = sum_from-start c.args.of (collection results c.args.path) (field results c.args.path) in
    record {
      value = cc;
      count = ap (λ (f : FieldsSummed). f.count) c.new-fold.ensures;
    }
