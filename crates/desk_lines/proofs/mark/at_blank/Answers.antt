use Rattle.std.proofs.Common.{◌+◌, ◌-◌, ℕ, List, Some, length, take, drop, sym, ap, ◌∙◌, arith, length-drop}
use Rattle.std.proofs.lemmas.List.{take_all}
use Rattle.desk_lines.proofs.MarkLaws.{cut_at, uncut}
use Rattle.desk_lines.proofs.mark.at_blank.Goals as goal

pub returns-in-None-clause-parts : goal.returns-in-None-clause-parts
returns-in-None-clause-parts c = sym (uncut c.args.text.now c.in-None.ensures.none)

pub returns-in-Some-clause-parts : goal.returns-in-Some-clause-parts
returns-in-Some-clause-parts c =
    let text = c.args.text.now in
    let at = c.in-Some.at in
    let rest = take_all (length text - (at + 1)) (drop (at + 1) text) (omega (arith, length-drop (at + 1) text)) in
    ap (λ (l : List ℕ). Some (take at text, l)) rest ∙ sym (cut_at text at c.in-Some.ensures.found)
