use Rattle.std.proofs.Common.{refl, sym, ◌∙◌}
use Rattle.fact_paths.specs.Paths.{SpellsFactPath}
use Rattle.fact_paths.specs.Parsing.{fact_path_of}
use Rattle.fact_paths.proofs.FactPathLaws.{fact_path_reading}
use Rattle.fact_paths.proofs.ParsingLaws.{one_path_from}
use Rattle.fact_paths.proofs.laws.fact_paths_have_one_text.Goals as goal

pub returns : goal.returns
returns c = record {
  one_path = one_path_from SpellsFactPath fact_path_of fact_path_reading;
  one_text = λ s t path h k. h.1 ∙ sym k.1;
  its_text = λ path h. (h, refl);
}
