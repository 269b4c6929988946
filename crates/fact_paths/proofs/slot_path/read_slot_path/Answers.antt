use Rattle.std.proofs.Common.{Err, refl, sym}
use Rattle.fact_paths.specs.Paths.{SpellsSlotPath}
use Rattle.fact_paths.specs.declared.fault.PathFault.TheVariants.{BadPath}
use Rattle.fact_paths.specs.Parsing.{slot_path_of}
use Rattle.fact_paths.proofs.SlotPathLaws.{slot_path_reading}
use Rattle.fact_paths.proofs.ParsingLaws.{reads_from_gives}
use Rattle.fact_paths.proofs.slot_path.read_slot_path.Goals as goal

pub returns-in-None : goal.returns-in-None
returns-in-None c = reads_from_gives SpellsSlotPath slot_path_of slot_path_reading c.args.text.now (Err BadPath) (rw (sym c.in-None.ensures) refl)

pub returns-in-Some : goal.returns-in-Some
returns-in-Some c = reads_from_gives SpellsSlotPath slot_path_of slot_path_reading c.args.text.now c.read_rooted.result (rw (sym c.in-Some.ensures) c.read_rooted.ensures)
