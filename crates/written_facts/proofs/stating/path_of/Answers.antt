use Rattle.std.proofs.Common.{sym}
use Rattle.fact_paths.proofs.FactPathLaws.{fact_path_reading}
use Rattle.written_facts.proofs.Taken.{no_path}
use Rattle.written_facts.proofs.stating.path_of.Goals as goal

pub returns-in-Ok : goal.returns-in-Ok
returns-in-Ok c = sym (fact_path_reading.complete c.args.text.now c.in-Ok.path c.in-Ok.ensures)

pub returns-in-Err-BadPath : goal.returns-in-Err-BadPath
returns-in-Err-BadPath c = no_path c.args.text.now c.in-Err-BadPath.field-0 c.in-Err-BadPath.field-0-is c.in-Err-BadPath.ensures
