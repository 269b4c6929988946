use Rattle.std.proofs.Common.{◌≡◌, ◌+◌, ℕ, All, List, [], length, subst, sym, arith}
use Rattle.std.specs.Prelude.{IfSome, slice_get}
use Rattle.dictionary.specs.AcceptedParts.{accepted}
use Rattle.dict_source.specs.Finding.{IsNumber}
use Rattle.dep_index.specs.Readers.{readers_of}
use Rattle.dep_index.specs.declared.readers_of.ReaderOf.{ReaderOf}
use Rattle.dep_index.proofs.ReaderNumbers.{readers_are_facts}
use Rattle.recalc.specs.PlacedReaders.{ArePlaced}
use Rattle.recalc.specs.declared.placed_readers.PlacedReaders.{PlacedReaders}
use Rattle.recalc.proofs.PlacingLaws.{row_added}
use Rattle.recalc.proofs.placed_readers.place_readers.Goals as goal

pub place_row-requires-clause-numbers : goal.place_row-requires-clause-numbers
place_row-requires-clause-numbers c =
    let d = accepted c.args.dict.now in
    let fact = c.loop-place.place + 1 in
    let number : IsNumber d.tree.facts fact = (omega arith, omega (arith, c.loop-place-test.true, c.fact_count-count.ensures)) in
    subst (λ (rs : List ReaderOf). All (λ (r : ReaderOf). IsNumber d.tree.facts r.fact) rs) (sym c.readers.ensures)
    (readers_are_facts d fact (readers_of c.args.readers.now fact) (c.requires.each fact number))

pub loop-place-preserved : goal.loop-place-preserved
loop-place-preserved c =
    let d = accepted c.args.dict.now in
    let rows = c.loop-place.rows.items in
    let same : c.loop-place.place + 1 ≡ length rows = omega (arith, c.loop-place.rows.ok.0, c.loop-place.invariant.count) in
    let one : ArePlaced d c.args.places.now (c.loop-place.place + 1) (readers_of c.args.readers.now (c.loop-place.place + 1)) [] c.in_ok-row.row = rw c.readers.ensures at c.in_ok-row.ensures in
    record {
      count = omega (arith, c.in_ok-push-2.ensures.len, c.loop-place.invariant.count);
      each = subst (λ (now : List PlacedReaders). (fact : ℕ) → IfSome (slice_get now fact) (ArePlaced d c.args.places.now fact (readers_of c.args.readers.now fact) []))
          (sym c.in_ok-push-2.ensures.items)
          (row_added (λ fact. ArePlaced d c.args.places.now fact (readers_of c.args.readers.now fact) []) rows c.in_ok-row.row c.loop-place.invariant.each (rw same at one));
    }
