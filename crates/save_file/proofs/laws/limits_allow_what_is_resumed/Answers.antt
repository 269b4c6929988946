use Rattle.save_file.proofs.ResumeLaws.{limits_allow}
use Rattle.save_file.proofs.laws.limits_allow_what_is_resumed.Goals as goal

pub returns : goal.returns
returns c = limits_allow
