use Rattle.save_file.proofs.CarryLaws.{kept_or_listed}
use Rattle.save_file.proofs.laws.each_line_is_kept_or_listed.Goals as goal

pub returns : goal.returns
returns c = kept_or_listed
