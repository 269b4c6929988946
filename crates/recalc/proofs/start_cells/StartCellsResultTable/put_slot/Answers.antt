use Rattle.std.proofs.lemmas.Result.{on_ok_weaker}
use Rattle.answers.specs.Meaning.{answered}
use Rattle.dictionary.specs.AcceptedParts.{accepted}
use Rattle.recalc.proofs.SharingLaws.{first_has_no_stamp, first_is_filled}
use Rattle.recalc.proofs.start_cells.StartCellsResultTable.put_slot.Goals as goal

pub returns-clause-ready : goal.returns-clause-ready
returns-clause-ready g c =
    on_ok_weaker c.put_first.result
    (λ put. record {
      graph = c.requires.ready.graph;
      stamps = first_has_no_stamp c.args.self.now.store.cells c.put_first.new.store.cells c.args.slot c.in_ok-res.res put c.requires.ready.stamps;
    })
    c.put_first.ensures

pub returns-clause-filled : goal.returns-clause-filled
returns-clause-filled g c =
    on_ok_weaker c.put_first.result
    (λ put. first_is_filled c.args.self.now.store.cells c.put_first.new.store.cells c.args.slot c.in_ok-res.res put (accepted c.args.dict.now) (answered c.args.answers.now) c.in_ok-res.ensures.value)
    c.put_first.ensures
