use Rattle.std.proofs.Common.{refl, sym, ◌∙◌}
use Rattle.fact_paths.specs.Paths.{SpellsSlotPath}
use Rattle.fact_paths.specs.Parsing.{slot_path_of}
use Rattle.fact_paths.proofs.SlotPathLaws.{slot_path_reading}
use Rattle.fact_paths.proofs.ParsingLaws.{one_path_from}
use Rattle.fact_paths.proofs.laws.slot_paths_have_one_text.Goals as goal

pub returns : goal.returns
returns c = record {
  one_path = one_path_from SpellsSlotPath slot_path_of slot_path_reading;
  one_text = λ s t path h k. h.1 ∙ sym k.1;
  its_text = λ path h. (h, refl);
}
