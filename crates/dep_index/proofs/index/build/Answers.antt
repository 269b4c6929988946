use Rattle.std.proofs.Common.{◌≤◌, ap, sym, subst, ◌∙◌, arith, length}
use Rattle.std.proofs.lemmas.List.{drop_all}
use Rattle.dictionary.specs.AcceptedParts.{accepted, names_of}
use Rattle.dep_index.specs.Noting.{with_facts}
use Rattle.dep_index.specs.Readers.{AreReaders, readers_of}
use Rattle.dep_index.proofs.ReaderLaws.{readers_in_order}
use Rattle.dep_index.proofs.index.build.Goals as goal

pub returns : goal.returns
returns c =
    let d = accepted c.args.dict.now in
    let order = c.by_rank-order.result.now in
    let whole : length order ≤ c.loop-reader.reader-index = omega arith in
    record {
      count = omega (arith, c.loop-reader.by_fact.ok.0, c.loop-reader.invariant.count);
      each = λ fact number.
          let done = ap (with_facts d.tree fact (readers_of c.loop-reader.by_fact.items fact)) (sym (drop_all c.loop-reader.reader-index order whole)) ∙ c.loop-reader.invariant.noted fact in
          subst (AreReaders d fact) (sym done) (readers_in_order (names_of c.args.dict.now.checks) d fact order c.source.ensures.is_accepted c.by_rank-order.ensures);
    }
