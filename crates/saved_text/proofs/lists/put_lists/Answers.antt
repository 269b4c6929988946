use Rattle.saved_text.proofs.Common.{List, [], accepted, answered, ap, arith, counted, flat_map, length, list_lines, lists_lines as lists, suc, sym, subst, zero, ℕ, ◌+◌, ◌-◌, ◌∙◌, ◌∷◌, ◌≡◌}
use Rattle.saved_text.proofs.LinesLeft.{LinesLeft, all_left, failed_next, left_each, none_left, wrote_next}
use Rattle.saved_text.proofs.SlotsLeft.{counted_more}
use Rattle.saved_text.proofs.lists.put_lists.Goals as goal

pub loop-done-init : goal.loop-done-init
loop-done-init g c =
    let d = (accepted c.args.dict.now).tree in
    let a = answered c.args.answers.now in
    let same : length d.facts ≡ c.fact_count-count.result - 0 = omega (arith, c.fact_count-count.ensures) in
    let out = g.K.Sink.output c.args.out.now in
    subst (λ (n : ℕ). LinesLeft out out (lists d a) (flat_map (list_lines d a) (counted 1 n))) same (all_left out (lists d a))

pub returns-in-Err : goal.returns-in-Err
returns-in-Err g c =
    let d = (accepted c.args.dict.now).tree in
    let a = answered c.args.answers.now in
    let done = c.loop-done.done in
    let count = c.fact_count-count.result in
    let one : suc done ≡ done + 1 = omega arith in
    let rest = counted (suc (done + 1)) (count - (done + 1)) in
    failed_next _ _ _ (lists d a) (list_lines d a (done + 1)) (flat_map (list_lines d a) rest) _ _
    (left_each (list_lines d a) _ _ _ (done + 1) (counted (suc done) (count - done)) rest (counted_more done count c.loop-done-test.true ∙ ap (λ (n : ℕ). n ∷ counted (suc n) (count - n)) one) c.loop-done.invariant)
    c.in-Err.ensures

pub loop-done-preserved : goal.loop-done-preserved
loop-done-preserved g c =
    let d = (accepted c.args.dict.now).tree in
    let a = answered c.args.answers.now in
    let done = c.loop-done.done in
    let count = c.fact_count-count.result in
    let one : suc done ≡ done + 1 = omega arith in
    let rest = counted (suc (done + 1)) (count - (done + 1)) in
    wrote_next _ _ _ (lists d a) (list_lines d a (done + 1)) (flat_map (list_lines d a) rest) _
    (left_each (list_lines d a) _ _ _ (done + 1) (counted (suc done) (count - done)) rest (counted_more done count c.loop-done-test.true ∙ ap (λ (n : ℕ). n ∷ counted (suc n) (count - n)) one) c.loop-done.invariant)
    c.in-Ok.ensures

pub returns : goal.returns
returns g c =
    let d = (accepted c.args.dict.now).tree in
    let a = answered c.args.answers.now in
    let done = c.loop-done.done in
    let none : c.fact_count-count.result - done ≡ zero = omega (arith, c.loop-done-test.false) in
    none_left _ _ (lists d a) _ _ (ap (λ (n : ℕ). flat_map (list_lines d a) (counted (suc done) n)) none) c.loop-done.invariant
