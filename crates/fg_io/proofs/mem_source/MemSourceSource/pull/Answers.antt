use Rattle.std.proofs.Common.{◌+◌, rules, arith, drop, sym, ◌∙◌, ap}
use Rattle.std.proofs.lemmas.List.{drop_all}
use Rattle.fg_io.proofs.Cuts.{moved}
use Rattle.fg_io.proofs.mem_source.MemSourceSource.pull.Goals as goal

pub returns-clause-bytes : goal.returns-clause-bytes
returns-clause-bytes g c =
    let bytes = c.self.inside.bytes.items in
    let at = c.self.inside.at in
    let count = c.min-count.result in (
      ap (λ s. s.left) (sym c.self.view_is) ∙ moved bytes c.copy_from_slice.new.self (drop count c.args.buf.now) at count (search rules) (omega arith),
      λ none room. drop_all (at + count) bytes (grind arith),
    )
