use Rattle.save_file.proofs.Common.{List, ap, append_assoc, arith, counted, flat_map, line_of, map, opened_at, rules, suc, sym, tree_of, ℕ, ◌++◌, ◌+◌, ◌-◌, ◌∙◌, ◌∷◌, ◌≡◌}
use Rattle.saved_text.proofs.SlotsLeft.{counted_more}
use Rattle.save_file.proofs.opening.given_lists.Goals as goal

pub loop-done-preserved : goal.loop-done-preserved
loop-done-preserved c =
    let f = opened_at (tree_of (rules c.args.dict.now)) (map line_of c.args.lines.now) in
    let done = c.loop-done.done in
    let count = c.fact_count-count.result in
    let one : suc done ≡ done + 1 = omega arith in
    let rest = counted (suc (done + 1)) (count - (done + 1)) in
    ap (λ (xs : List (ℕ × List ℕ)). xs ++ flat_map f rest) c.in-Ok.ensures.added
    ∙ append_assoc c.loop-done.given.items (f (done + 1)) (flat_map f rest)
    ∙ ap (λ (ns : List ℕ). c.loop-done.given.items ++ flat_map f ns) (sym (counted_more done count c.loop-done-test.true ∙ ap (λ (n : ℕ). n ∷ counted (suc n) (count - n)) one))
    ∙ c.loop-done.invariant
