use Rattle.dict_gen.proofs.ScriptLaws.{script_is_read}
use Rattle.dict_gen.proofs.laws.the_script_is_read_line_by_line.Goals as goal

pub returns : goal.returns
returns c = script_is_read
