use Rattle.std.proofs.Common.{◌≡◌, ap, ◌∙◌, arith}
use Rattle.std.specs.Prelude.{Result, Ok, Err, OnErr}
use Rattle.slab.specs.Slab.{slab_len, get as cell_in}
use Rattle.cell_store.proofs.PlaceLaws.{contents_are, same_places, unchanged}
use Rattle.cell_store.proofs.placed.Placed.make_room.Goals as goal

pub invariant_of-self-in_err-reserve-2 : goal.invariant_of-self-in_err-reserve-2
invariant_of-self-in_err-reserve-2 c =
    let kept = c.in_err-reserve-2.ensures.rest_kept in
    record {
      placed = same_places c.reserve.ensures.entries.2 (λ r. ap (λ s. cell_in s r) kept) c.self.invariant.placed;
      spare_places = omega (arith, c.reserve.ensures.spare);
      spare_cells = omega (arith, ap slab_len kept, c.in_err-reserve-2.ensures.capacity);
    }

pub invariant_of-self-2 : goal.invariant_of-self-2
invariant_of-self-2 c =
    let kept = c.in_ok-reserve-2.ensures.rest_kept in
    record {
      placed = same_places c.reserve.ensures.entries.2 (λ r. ap (λ s. cell_in s r) kept) c.self.invariant.placed;
      spare_places = c.in_ok-reserve.ensures.ok;
      spare_cells = c.in_ok-reserve-2.ensures.room;
    }

pub returns-clause-ok : goal.returns-clause-ok
returns-clause-ok c =
    let kept = c.in_ok-reserve-2.ensures.rest_kept in
    let was : c.self.inside.room ≡ c.args.self.now.room = ap (λ v. v.room) c.self.view_is in
    contents_are
    (unchanged c.self.inside.cells c.reserve-2.new.self c.self.inside.places.entries c.reserve.new.self.entries c.reserve.ensures.entries.2 (λ r. ap (λ s. cell_in s r) kept) ∙ ap (λ v. v.cells) c.self.view_is)
    (omega (arith, c.requires))

always : {T E P : Type 0} (r : Result T E) → P → OnErr r P
always (Ok x) h = tt
always (Err e) h = h

pub returns-in_err-reserve-2-clause-err : goal.returns-in_err-reserve-2-clause-err
returns-in_err-reserve-2-clause-err c =
    let kept = c.in_err-reserve-2.ensures.rest_kept in
    always c.from_residual-in_err-reserve-2.result (contents_are
    (unchanged c.self.inside.cells c.reserve-2.new.self c.self.inside.places.entries c.reserve.new.self.entries c.reserve.ensures.entries.2 (λ r. ap (λ s. cell_in s r) kept) ∙ ap (λ v. v.cells) c.self.view_is)
    (ap (λ v. v.room) c.self.view_is))
