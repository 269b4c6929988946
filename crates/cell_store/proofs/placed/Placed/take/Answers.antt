use Rattle.std.proofs.Common.{ap, sym, ◌∙◌, arith, option_map}
use Rattle.std.specs.FinMap as map
use Rattle.cell_store.specs.Places.{cells_at}
use Rattle.cell_store.proofs.PlaceLaws.{cell_found, contents_are, no_cell, nothing_taken, take_away}
use Rattle.cell_store.proofs.placed.Placed.take.Goals as goal

pub remove-requires-in-Some : goal.remove-requires-in-Some
remove-requires-in-Some c = c.self.invariant.placed.filled (c.args.slot.fact, c.args.slot.member) c.in-Some.place (sym c.in-Some.ensures.value)

pub invariant_of-self : goal.invariant_of-self
invariant_of-self c =
    record {
      placed = (take_away c.self.inside.cells c.remove-in-Some.new.self c.self.inside.places.entries c.remove.new.self.entries c.args.slot c.in-Some.place c.self.invariant.placed c.in-Some.ensures.value c.remove.ensures.updates.0 c.remove-in-Some.ensures.updates).0;
      spare_places = omega arith;
      spare_cells = omega arith;
    }

pub returns-in-Some-clause-old : goal.returns-in-Some-clause-old
returns-in-Some-clause-old c =
    sym (ap (option_map (λ x. x.res)) (cell_found c.self.inside.cells c.self.inside.places.entries c.args.self.now c.args.slot c.in-Some.place c.self.view_is c.in-Some.ensures.value c.remove-in-Some.ensures.value))

pub returns-in-Some-clause-new : goal.returns-in-Some-clause-new
returns-in-Some-clause-new c =
    contents_are
    ((take_away c.self.inside.cells c.remove-in-Some.new.self c.self.inside.places.entries c.remove.new.self.entries c.args.slot c.in-Some.place c.self.invariant.placed c.in-Some.ensures.value c.remove.ensures.updates.0 c.remove-in-Some.ensures.updates).1
    ∙ ap (λ v. map.remove v.cells c.args.slot) c.self.view_is)
    (ap (λ v. v.room) c.self.view_is)

pub returns-in-None-clause-old : goal.returns-in-None-clause-old
returns-in-None-clause-old c =
    sym (ap (option_map (λ x. x.res)) (no_cell c.self.inside.cells c.self.inside.places.entries c.args.self.now c.args.slot c.self.view_is c.in-None.ensures.value))

pub returns-in-None-clause-new : goal.returns-in-None-clause-new
returns-in-None-clause-new c =
    contents_are
    (ap (cells_at c.self.inside.cells) c.in-None.ensures.unchanged ∙ ap (λ v. v.cells) c.self.view_is
    ∙ nothing_taken c.args.self.now.cells c.args.slot (no_cell c.self.inside.cells c.self.inside.places.entries c.args.self.now c.args.slot c.self.view_is c.in-None.ensures.value))
    (ap (λ v. v.room) c.self.view_is)
