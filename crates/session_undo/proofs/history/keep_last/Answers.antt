use Rattle.std.proofs.Common.{rules, ◌≡◌, ◌∙◌, ◌-◌, ◌≤◌, ◌++◌, length, ap, arith}
use Rattle.std.specs.Prelude.{drop, take}
use Rattle.std.proofs.lemmas.List.{length-drop, take_at}
use Rattle.session_undo.specs.History.{stack}
use Rattle.session_undo.proofs.StackLaws.{last_newest}
use Rattle.session_undo.proofs.history.keep_last.Goals as goal

pub returns : goal.returns
returns c =
    let es = c.args.edits.now.items in
    let most = c.args.most in
    let n = length es - most in
    let within : most ≤ length es = search rules in
    let count : length (drop n es) ≡ most = length-drop n es ∙ omega arith in
    let rotated : c.rotate_left.new.self.items ≡ drop n es ++ take n es = search rules in
    let left : c.truncate.new.self.items ≡ drop n es = c.truncate.ensures.items ∙ ap (take most) rotated ∙ take_at (drop n es) (take n es) most count in
    ap stack left ∙ last_newest es most within
