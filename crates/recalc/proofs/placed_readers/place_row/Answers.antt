use Rattle.std.proofs.Common.{◌+◌, drop, List, subst}
use Rattle.std.proofs.lemmas.List.{at_drop_more}
use Rattle.dictionary.specs.AcceptedParts.{accepted}
use Rattle.dep_index.specs.declared.readers_of.ReaderOf.{ReaderOf}
use Rattle.recalc.specs.PlacedReaders.{ArePlaced}
use Rattle.recalc.proofs.placed_readers.place_row.Goals as goal

pub loop-reader-preserved : goal.loop-reader-preserved
loop-reader-preserved c =
    let i = c.loop-reader.reader-index in
    c.in_ok-add_reader.ensures c.args.readers.now (drop (i + 1) c.args.readers.now)
    (subst (λ (left : List ReaderOf). ArePlaced (accepted c.args.dict.now) c.args.places.now c.args.fact c.args.readers.now left c.loop-reader.row)
    (at_drop_more (λ (left : List ReaderOf). left) c.args.readers.now i _ c.loop-reader-test.true) c.loop-reader.invariant)
