use Rattle.save_file.proofs.CarryLaws.{one_carry}
use Rattle.save_file.proofs.laws.carrying_gives_one_result.Goals as goal

pub returns : goal.returns
returns c = one_carry
