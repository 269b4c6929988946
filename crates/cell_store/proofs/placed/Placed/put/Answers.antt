use Rattle.std.proofs.Common.{◌<◌, ap, sym, ◌∙◌, arith, Some}
use Rattle.std.specs.Prelude.{Result, Ok, Err, IsOk, OnOk}
use Rattle.std.specs.HashMap.{spare}
use Rattle.std.specs.FinMap as map
use Rattle.cell_store.specs.Contents.{has_other}
use Rattle.cell_store.proofs.PlaceLaws.{cell_found, no_cell, put_new, put_over, room_left}
use Rattle.cell_store.proofs.placed.Placed.put.Goals as goal

where_ok : {T E P : Type 0} (r : Result T E) → IsOk r → OnOk r P → P
where_ok (Ok x) ok h = h
where_ok (Err e) ok h = absurd cc

pub index-requires : goal.index-requires
index-requires c = c.self.invariant.placed.filled (c.args.slot.fact, c.args.slot.member) c.in-Some.place.now (sym c.in-Some.ensures.value)

pub index_mut-requires : goal.index_mut-requires
index_mut-requires c = c.self.invariant.placed.filled (c.args.slot.fact, c.args.slot.member) c.in-Some.place.now (sym c.in-Some.ensures.value)

pub returns-in-Some-clause-cell : goal.returns-in-Some-clause-cell
returns-in-Some-clause-cell c =
    sym (cell_found c.self.inside.cells c.self.inside.places.entries c.args.self.now c.args.slot c.in-Some.place.now c.self.view_is c.in-Some.ensures.value (c.index_mut.ensures.value ∙ ap Some (sym c.replace-old.ensures.value)))

pub returns-in-Some-clause-moved : goal.returns-in-Some-clause-moved
returns-in-Some-clause-moved c =
    c.is_other-moved.ensures
    ∙ ap (λ o. has_other o c.args.res) (sym (cell_found c.self.inside.cells c.self.inside.places.entries c.args.self.now c.args.slot c.in-Some.place.now c.self.view_is c.in-Some.ensures.value c.index.ensures))

pub returns-in-Some-clause-cells : goal.returns-in-Some-clause-cells
returns-in-Some-clause-cells c =
    rw c.replace-old.ensures.after (put_over c.self.inside.cells c.self.inside.places.entries c.args.slot c.in-Some.place.now (record { res = c.args.res; stamp = c.args.stamp }) c.self.invariant.placed c.in-Some.ensures.value
    ∙ ap (λ v. map.insert v.cells c.args.slot (record { res = c.args.res; stamp = c.args.stamp })) c.self.view_is)

pub insert_reserved-place-requires : goal.insert_reserved-place-requires
insert_reserved-place-requires c =
    let room : 0 < c.self.inside.room = room_left c.self.inside.cells c.self.inside.places.entries c.args.slot c.self.inside.room c.args.self.now c.self.view_is c.in-None.ensures.value c.requires in
    omega (arith, c.self.invariant.spare_cells)

pub overflow_sub-self : goal.overflow_sub-self
overflow_sub-self c = room_left c.self.inside.cells c.self.inside.places.entries c.args.slot c.self.inside.room c.args.self.now c.self.view_is c.in-None.ensures.value c.requires

pub invariant_of-self-in-None : goal.invariant_of-self-in-None
invariant_of-self-in-None c =
    let room : 0 < c.self.inside.room = room_left c.self.inside.cells c.self.inside.places.entries c.args.slot c.self.inside.room c.args.self.now c.self.view_is c.in-None.ensures.value c.requires in
    let enough : 0 < spare c.self.inside.places = omega (arith, c.self.invariant.spare_places) in
    record {
      placed = (put_new c.self.inside.cells c.insert_reserved-place.new.self c.self.inside.places.entries c.insert.new.self.entries c.args.slot c.insert_reserved-place.result (record { res = c.args.res; stamp = c.args.stamp }) c.self.invariant.placed c.in-None.ensures.value c.insert_reserved-place.ensures.was_vacant (where_ok c.insert.result (c.insert.ensures.succeeds enough) c.insert.ensures.updates).0 c.insert_reserved-place.ensures.updates).0;
      spare_places = omega (arith, c.insert.ensures.spare);
      spare_cells = omega (arith, c.self.invariant.spare_cells, c.insert_reserved-place.ensures.len, c.insert_reserved-place.ensures.capacity);
    }

pub returns-in-None-clause-cell : goal.returns-in-None-clause-cell
returns-in-None-clause-cell c =
    sym (no_cell c.self.inside.cells c.self.inside.places.entries c.args.self.now c.args.slot c.self.view_is c.in-None.ensures.value)

pub returns-in-None-clause-moved : goal.returns-in-None-clause-moved
returns-in-None-clause-moved c =
    sym (ap (λ o. has_other o c.args.res) (no_cell c.self.inside.cells c.self.inside.places.entries c.args.self.now c.args.slot c.self.view_is c.in-None.ensures.value))

pub returns-in-None-clause-cells : goal.returns-in-None-clause-cells
returns-in-None-clause-cells c =
    let room : 0 < c.self.inside.room = room_left c.self.inside.cells c.self.inside.places.entries c.args.slot c.self.inside.room c.args.self.now c.self.view_is c.in-None.ensures.value c.requires in
    let enough : 0 < spare c.self.inside.places = omega (arith, c.self.invariant.spare_places) in
    (put_new c.self.inside.cells c.insert_reserved-place.new.self c.self.inside.places.entries c.insert.new.self.entries c.args.slot c.insert_reserved-place.result (record { res = c.args.res; stamp = c.args.stamp }) c.self.invariant.placed c.in-None.ensures.value c.insert_reserved-place.ensures.was_vacant (where_ok c.insert.result (c.insert.ensures.succeeds enough) c.insert.ensures.updates).0 c.insert_reserved-place.ensures.updates).1
    ∙ ap (λ v. map.insert v.cells c.args.slot (record { res = c.args.res; stamp = c.args.stamp })) c.self.view_is
