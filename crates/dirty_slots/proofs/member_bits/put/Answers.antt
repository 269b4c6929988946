use Rattle.std.proofs.Common.{◌∙◌, ◌||◌, nat_eq, sym, ap, arith}
use Rattle.dirty_slots.specs.PlaceBits.{has_place}
use Rattle.dirty_slots.specs.declared.member_bits.MemberBits.{MemberBits}
use Rattle.dirty_slots.proofs.MemberBitLaws.{put_in, row_of}
use Rattle.dirty_slots.proofs.member_bits.put.Goals as goal

pub returns-clause-ok : goal.returns-clause-ok
returns-clause-ok c =
    let row = row_of c.args.rows.now c.args.slot c.index-rows-slot.result c.requires c.index-rows-slot.is in
    put_in c.args.rows.now c.args.slot c.put.new.self c.index-rows-slot.result row.0 row.1 (c.put.ensures.rank ∙ ap (λ (r : MemberBits). r.rank) (sym c.index-rows-slot.is)) (omega arith)
    (λ i. c.in_ok-put.ensures.ok i ∙ ap (λ (r : MemberBits). nat_eq i c.args.slot.member || has_place r.members i) (sym c.index-rows-slot.is))
