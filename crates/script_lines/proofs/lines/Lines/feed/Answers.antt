use Rattle.std.proofs.Common.{◌≡◌, ◌∙◌, ◌++◌, ◌+◌, sym, ap, drop}
use Rattle.script_lines.specs.Lines.{script_lines}
use Rattle.script_lines.specs.LineSoFar.{read_as}
use Rattle.script_lines.proofs.Keeping.{HasNoNewline-read_as, ends, takes}
use Rattle.script_lines.proofs.lines.Lines.feed.Goals as goal

pub returns-in-Some-clause-line : goal.returns-in-Some-clause-line
returns-in-Some-clause-line c =
    let piece = c.args.piece.now in
    let begun = c.begin.new.kept in
    let kept = c.add-in-Some.new.self in
    let before : c.args.self.now.so_far ≡ read_as begun.bytes.items begun.is_long = ap (λ v. v.so_far) (sym c.self.view_is) ∙ sym c.begin.ensures.so_far in
    rw before (takes (read_as begun.bytes.items begun.is_long) piece (read_as kept.bytes.items kept.is_long) kept.bytes.items c.in-Some.at c.ready.result c.in-Some.ensures.found
    (HasNoNewline-read_as begun.bytes.items begun.is_long begun.no_newline) (HasNoNewline-read_as kept.bytes.items kept.is_long kept.no_newline) c.add-in-Some.ensures c.ready.ensures)

pub returns-in-Some-clause-stream : goal.returns-in-Some-clause-stream
returns-in-Some-clause-stream c = λ more.
    let piece = c.args.piece.now in
    let begun = c.begin.new.kept in
    let kept = c.add-in-Some.new.self in
    let before : c.args.self.now.so_far ≡ read_as begun.bytes.items begun.is_long = ap (λ v. v.so_far) (sym c.self.view_is) ∙ sym c.begin.ensures.so_far in
    ap (λ l. script_lines (l ++ (piece ++ more))) before
    ∙ ends (read_as begun.bytes.items begun.is_long) piece (read_as kept.bytes.items kept.is_long) more c.in-Some.at c.in-Some.ensures.found (HasNoNewline-read_as kept.bytes.items kept.is_long kept.no_newline) c.add-in-Some.ensures
    ∙ ap (λ lines. lines ++ script_lines (drop (c.in-Some.at + 1) piece ++ more)) (sym c.ready.ensures)
