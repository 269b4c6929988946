use Rattle.std.proofs.Common.{◌≡◌, subst}
use Rattle.std.specs.Prelude.{IfOk}
use Rattle.dict_source.specs.View.{use_view}
use Rattle.dict_source.proofs.UseLaws.{use_made, no_use_made}
use Rattle.dict_source.proofs.path_use.read_use.Goals as goal

pub returns-in-Ok : goal.returns-in-Ok
returns-in-Ok c = use_made c.args.text.now c.in-Ok.path c.in-Ok.ensures

pub returns-in-Err-BadPath : goal.returns-in-Err-BadPath
returns-in-Err-BadPath c =
    subst (λ u. IfOk c.misspelled.result (λ v. use_view v ≡ u)) (no_use_made c.args.text.now c.in-Err-BadPath.field-0 c.in-Err-BadPath.field-0-is c.in-Err-BadPath.ensures) c.misspelled.ensures
