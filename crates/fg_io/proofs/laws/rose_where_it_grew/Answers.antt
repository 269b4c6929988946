use Rattle.fg_io.proofs.Rising.{rose_where_it_grew}
use Rattle.fg_io.proofs.laws.rose_where_it_grew.Goals as goal

pub returns : goal.returns
returns c = rose_where_it_grew
