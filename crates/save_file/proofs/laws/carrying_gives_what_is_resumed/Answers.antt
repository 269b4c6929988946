use Rattle.save_file.proofs.ResumeLaws.{carrying_same}
use Rattle.save_file.proofs.laws.carrying_gives_what_is_resumed.Goals as goal

pub returns : goal.returns
returns c = carrying_same
