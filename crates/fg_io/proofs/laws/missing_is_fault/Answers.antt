use Rattle.fg_io.proofs.Fetched.{missing_is_fault}
use Rattle.fg_io.proofs.laws.missing_is_fault.Goals as goal

pub returns : goal.returns
returns c = missing_is_fault
