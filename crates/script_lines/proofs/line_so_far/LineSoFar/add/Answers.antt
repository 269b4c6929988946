use Rattle.std.proofs.Common.{◌≡◌, ◌++◌, take, arith}
use Rattle.std.proofs.lemmas.Grind.{common_steps}
use Rattle.script_lines.proofs.Keeping.{adds}
use Rattle.script_lines.proofs.line_so_far.LineSoFar.add.Goals as goal

pub returns : goal.returns
returns c =
    let before = c.args.self.now in
    let count = c.min-count.result in
    let bytes : c.try_extend_from_slice.new.self.items ≡ before.bytes.items ++ take count c.args.text.now = grind (arith, common_steps) in
    rw bytes (adds before.bytes.items c.args.text.now before.is_long count before.no_newline before.fits before.full c.requires (grind arith))
