use Rattle.script_lines.proofs.PartLaws.{slot_of-spelled, slot_of-none}
use Rattle.script_lines.proofs.parts.read_slot.Goals as goal

pub returns-in-Ok : goal.returns-in-Ok
returns-in-Ok c = slot_of-spelled c.args.text.now c.in-Ok.slot c.in-Ok.ensures

pub returns-in-Err-BadPath : goal.returns-in-Err-BadPath
returns-in-Err-BadPath c = slot_of-none c.args.text.now (rw c.in-Err-BadPath.field-0-is at c.in-Err-BadPath.ensures)
