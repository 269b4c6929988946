use Rattle.recalc.proofs.SharingLaws.{empty_have_no_result, empty_have_no_stamp}
use Rattle.recalc.proofs.start_cells.first_cells.Goals as goal

pub fill-requires-clause-ready : goal.fill-requires-clause-ready
fill-requires-clause-ready g c = record {
  graph = c.requires.graph;
  stamps = empty_have_no_stamp c.in_ok-store.store.cells c.in_ok-store.ensures.cells;
}

pub fill-requires-clause-empty : goal.fill-requires-clause-empty
fill-requires-clause-empty g c = empty_have_no_result c.in_ok-store.store.cells c.in_ok-store.ensures.cells
