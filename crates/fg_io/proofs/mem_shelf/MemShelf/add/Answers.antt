use Rattle.std.proofs.Common.{ap, string_bytes}
use Rattle.std.specs.FinMap.{insert}
use Rattle.fg_io.specs.ShelfState.{ShelfState}
use Rattle.fg_io.proofs.KeptFiles.{files_of-insert}
use Rattle.fg_io.proofs.mem_shelf.MemShelf.add.Goals as goal

pub returns-clause-ok : goal.returns-clause-ok
returns-clause-ok c =
    let name = string_bytes c.args.name in
    rw (files_of-insert c.self.inside.files c.insert.new.self name c.args.bytes c.in_ok-insert.ensures.updates)
    (ap (λ (s : ShelfState). record s { files = insert s.files name c.args.bytes.items }) c.self.view_is)
