use Rattle.std.proofs.Common.{arith, ◌<◌, ◌∙◌, ap, suc, add-one, drop, length, get_or}
use Rattle.dict_order.specs.Walking.{State, see_all}
use Rattle.dict_order.proofs.ListLaws.{has_front, has_rest}
use Rattle.dict_order.proofs.WalkLaws.{sees_one, see_rest}
use Rattle.dict_order.proofs.walk.see_all.Goals as goal

pub see-requires : goal.see-requires
see-requires c = c.loop-fact.invariant.within _ (has_front c.args.facts.now c.loop-fact.fact-index (omega arith))

pub loop-fact-preserved : goal.loop-fact-preserved
loop-fact-preserved c =
    let i = c.loop-fact.fact-index in
    let facts = c.args.facts.now in
    let lt : i < length facts = omega arith in
    let before : State = (c.loop-fact.seen.items, c.loop-fact.todo.items) in
    let one = sees_one (get_or facts i 0) before (c.loop-fact.invariant.within (get_or facts i 0) (has_front facts i lt)) in
    rw add-one record {
      rest = ap (see_all (drop (suc i) facts)) c.in_ok-see.ensures ∙ see_rest facts i before lt ∙ c.loop-fact.invariant.rest;
      within = λ k h. let l = c.loop-fact.invariant.within k (has_rest facts i k lt h) in omega (arith, l, one.len, ap (λ (s : State). length s.0) c.in_ok-see.ensures);
    }
