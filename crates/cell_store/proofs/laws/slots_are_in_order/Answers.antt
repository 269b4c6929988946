use Rattle.cell_store.proofs.SlotLaws.{slot_cmp-IsAntisymmetric, slot_cmp_total}
use Rattle.cell_store.proofs.laws.slots_are_in_order.Goals as goal

pub returns : goal.returns
returns c = record { total = slot_cmp_total; distinct = slot_cmp-IsAntisymmetric }
