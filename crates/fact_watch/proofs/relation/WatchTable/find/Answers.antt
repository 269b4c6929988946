use Rattle.std.proofs.Common.{sym, ap, ◌∙◌}
use Rattle.std.specs.Str.{bytes_eq}
use Rattle.fact_watch.proofs.TableLaws.{first_behind}
use Rattle.fact_watch.proofs.relation.WatchTable.find.Goals as goal

pub loop-place-preserved : goal.loop-place-preserved
loop-place-preserved g c =
    first_behind c.args.self.now.relations.items c.deref-relation-items.result.now (λ r. bytes_eq r.name c.args.name.now) c.loop-place.place c.relation-item.result _
    c.deref-relation-items.ensures.value c.loop-place-test.true c.relation-item.is (ap (λ n. bytes_eq n c.args.name.now) (sym c.as_str.ensures.text) ∙ sym c.if-eq.ensures) c.loop-place.invariant
