use Rattle.std.proofs.Common.{rules}
use Rattle.fg_io.proofs.KeptFiles.{looked_up}
use Rattle.fg_io.proofs.mem_shelf.found.Goals as goal

pub returns : goal.returns
returns c = looked_up c.args.files.now c.args.name.now c.get.result c.get.ensures.value (search rules)
