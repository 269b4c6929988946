use Rattle.std.proofs.Common.{drop}
use Rattle.dictionary.specs.AcceptedParts.{accepted}
use Rattle.recalc.specs.PlacedReaders.{ArePlaced}
use Rattle.recalc.proofs.placed_readers.place_row.Given as goal

abbrev pub invariant-loop-reader : goal.invariant-loop-reader
invariant-loop-reader l = ArePlaced (accepted l.dict) l.places l.fact l.readers (drop l.reader-index l.readers) l.row
