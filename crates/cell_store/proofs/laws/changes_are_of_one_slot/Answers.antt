use Rattle.cell_store.proofs.SlotLaws.{put_changes_one_slot, take_changes_one_slot}
use Rattle.cell_store.proofs.laws.changes_are_of_one_slot.Goals as goal

pub returns : goal.returns
returns c = record { put = put_changes_one_slot; take = take_changes_one_slot }
