use Rattle.std.proofs.Common.{◌≡◌, ◌∙◌, sym, ap, ◌<◌, length, arith}
use Rattle.std.proofs.lemmas.Grind.{common_steps}
use Rattle.script_lines.specs.Lines.{script_lines}
use Rattle.script_lines.specs.LineSoFar.{read_as}
use Rattle.script_lines.proofs.Keeping.{HasNoNewline-read_as, ends_last, ends_script, length-read_as}
use Rattle.script_lines.proofs.lines.Lines.finish.Goals as goal

pub returns-clause-line : goal.returns-clause-line
returns-clause-line c =
    let kept = c.begin.new.kept in
    let before : c.args.self.now.so_far ≡ read_as kept.bytes.items kept.is_long = ap (λ v. v.so_far) (sym c.self.view_is) ∙ sym c.begin.ensures.so_far in
    let some : 0 < length kept.bytes.items = grind (arith, common_steps) in
    rw before (ends_last (read_as kept.bytes.items kept.is_long) kept.bytes.items c.ready.result (omega (arith, length-read_as kept.bytes.items kept.is_long)) c.ready.ensures)

pub returns-clause-last : goal.returns-clause-last
returns-clause-last c =
    let kept = c.begin.new.kept in
    let before : c.args.self.now.so_far ≡ read_as kept.bytes.items kept.is_long = ap (λ v. v.so_far) (sym c.self.view_is) ∙ sym c.begin.ensures.so_far in
    let some : 0 < length kept.bytes.items = grind (arith, common_steps) in
    ap script_lines before
    ∙ ends_script (read_as kept.bytes.items kept.is_long) (HasNoNewline-read_as kept.bytes.items kept.is_long kept.no_newline) (omega (arith, length-read_as kept.bytes.items kept.is_long))
    ∙ sym c.ready.ensures
