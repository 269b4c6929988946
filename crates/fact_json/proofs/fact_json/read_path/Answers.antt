use Rattle.std.proofs.Common.{Some}
use Rattle.dict_source.proofs.UseLaws.{path_made, no_path_made}
use Rattle.fact_json.proofs.fact_json.read_path.Goals as goal

pub returns-in-Ok : goal.returns-in-Ok
returns-in-Ok c = path_made c.args.text.now (Some c.in-Ok.path) c.in-Ok.ensures

pub returns-in-Err-BadPath : goal.returns-in-Err-BadPath
returns-in-Err-BadPath c = no_path_made c.args.text.now c.in-Err-BadPath.field-0 c.in-Err-BadPath.field-0-is c.in-Err-BadPath.ensures
