use Rattle.std.proofs.Common.{[], ◌∷◌, sym, ap, subst, ◌∙◌, arith}
use Rattle.std.proofs.lemmas.List.{drop_all}
use Rattle.session_lines.proofs.WritingLaws.{LinesSoFar, so_far_all, so_far_fails, so_far_none, so_far_on}
use Rattle.interview_ends.specs.Summary.{texts_in}
use Rattle.interview_ends.proofs.LastLineLaws.{next_text, no_text}
use Rattle.interview_ends.proofs.ending.put_lines.Goals as goal

pub loop-text-init : goal.loop-text-init
loop-text-init g c = λ lines same. (lines, same, so_far_none _ _)

pub returns-in-Err : goal.returns-in-Err
returns-in-Err g c = λ lines same.
    let so_far = c.loop-text.invariant lines same in
    let next = next_text c.args.texts.now c.loop-text.text-index c.text-item.result so_far.0 c.loop-text-test.true c.text-item.is so_far.1 in
    so_far_fails _ _ _ lines (next.0 ∷ []) next.1 (subst (LinesSoFar _ _ lines) next.2 so_far.2) (c.in-Err.ensures next.0 (c.as_slice.ensures.value ∙ next.3))

pub loop-text-preserved : goal.loop-text-preserved
loop-text-preserved g c = λ lines same.
    let so_far = c.loop-text.invariant lines same in
    let next = next_text c.args.texts.now c.loop-text.text-index c.text-item.result so_far.0 c.loop-text-test.true c.text-item.is so_far.1 in
    (next.1, next.4, so_far_on _ _ _ lines (next.0 ∷ []) next.1 (subst (LinesSoFar _ _ lines) next.2 so_far.2) (c.in-Ok.ensures next.0 (c.as_slice.ensures.value ∙ next.3)))

pub returns : goal.returns
returns g c = λ lines same.
    let so_far = c.loop-text.invariant lines same in
    so_far_all _ _ lines so_far.0 (no_text so_far.0 (sym (ap texts_in (drop_all c.loop-text.text-index c.args.texts.now (omega (arith, c.loop-text-test.false)))) ∙ so_far.1)) so_far.2
