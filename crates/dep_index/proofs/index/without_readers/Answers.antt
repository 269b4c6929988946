use Rattle.std.proofs.Common.{[], ◌∷◌, ◌++◌, ap, ◌∙◌, arith}
use Rattle.dep_index.specs.Readers.{readers_of}
use Rattle.dep_index.proofs.IndexLaws.{readers_pushed}
use Rattle.dep_index.proofs.index.without_readers.Goals as goal

pub loop-n-preserved : goal.loop-n-preserved
loop-n-preserved c = record {
  count = omega (arith, c.in_ok-push.ensures.len);
  none = λ fact.
      ap (λ by_fact. readers_of by_fact fact) c.in_ok-push.ensures.items
      ∙ ap (λ r. readers_of (c.loop-n.by_fact.items ++ r ∷ []) fact) c.new.ensures
      ∙ readers_pushed c.loop-n.by_fact.items fact
      ∙ c.loop-n.invariant.none fact;
}
