use Rattle.save_file.proofs.ResumeLaws.{no_override}
use Rattle.save_file.proofs.laws.no_override_is_resumed.Goals as goal

pub returns : goal.returns
returns c = no_override
