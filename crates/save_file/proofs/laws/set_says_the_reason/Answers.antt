use Rattle.save_file.proofs.ResumeLaws.{set_says}
use Rattle.save_file.proofs.laws.set_says_the_reason.Goals as goal

pub returns : goal.returns
returns c = set_says
