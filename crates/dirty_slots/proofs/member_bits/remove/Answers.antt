use Rattle.std.proofs.Common.{◌∙◌, ◌&&◌, not, nat_eq, sym, ap}
use Rattle.dirty_slots.specs.PlaceBits.{has_place}
use Rattle.dirty_slots.specs.declared.member_bits.MemberBits.{MemberBits}
use Rattle.dirty_slots.proofs.MemberBitLaws.{not_in, row_of, taken_out}
use Rattle.dirty_slots.proofs.member_bits.remove.Goals as goal

pub returns-then-is_ranked : goal.returns-then-is_ranked
returns-then-is_ranked c =
    let row = row_of c.args.rows.now c.args.slot c.index-rows-slot.result (sym c.is_ranked.ensures ∙ c.if-is_ranked.true) c.index-rows-slot.is in
    taken_out c.args.rows.now c.args.slot c.remove.new.self c.index-rows-slot.result row.0 row.1 (c.remove.ensures.rank ∙ ap (λ (r : MemberBits). r.rank) (sym c.index-rows-slot.is))
    (λ i. c.remove.ensures.members i ∙ ap (λ (r : MemberBits). has_place r.members i && not (nat_eq i c.args.slot.member)) (sym c.index-rows-slot.is))

pub returns-else-is_ranked : goal.returns-else-is_ranked
returns-else-is_ranked c = not_in c.args.rows.now c.args.slot (sym c.is_ranked.ensures ∙ c.if-is_ranked.false)
