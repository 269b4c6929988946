use Rattle.std.proofs.Common.{subst, ◌∙◌}
use Rattle.dict_meaning.specs.Accepted.{IsAccepted}
use Rattle.dictionary.specs.AcceptedParts.{AcceptedParts, accepted, names_of}
use Rattle.explain.proofs.WalkLaws.{emptied, walk_begins, walk_ends, walk_reads_on}
use Rattle.explain.proofs.walk.find_reads.Goals as goal

pub loop-next-init : goal.loop-next-init
loop-next-init g c =
    let s = c.args.session.now in
    walk_begins (names_of s.dict.checks) (accepted s.dict)
    (subst (λ (k : AcceptedParts). IsAccepted (names_of k.checks) (accepted k)) c.dict-dict.ensures c.source-accepted.ensures.is_accepted)
    s.timeline.now c.args.slot c.requires c.new-found.result _ _ _ c.new-found.ensures c.new-todo.ensures.items c.in_ok-find_one.ensures

pub loop-next-preserved : goal.loop-next-preserved
loop-next-preserved g c =
    let s = c.args.session.now in
    walk_reads_on (names_of s.dict.checks) (accepted s.dict)
    (subst (λ (k : AcceptedParts). IsAccepted (names_of k.checks) (accepted k)) c.dict-dict.ensures c.source-accepted.ensures.is_accepted)
    s.timeline.now c.args.slot _ _ _ _ _ _ c.in-Some.next c.in-Some.ensures.items c.loop-next.invariant (c.as_slice.ensures.value ∙ c.in_ok-reads.ensures) c.in_ok-find_all.ensures

pub returns : goal.returns
returns g c =
    let s = c.args.session.now in
    walk_ends (names_of s.dict.checks) (accepted s.dict)
    (subst (λ (k : AcceptedParts). IsAccepted (names_of k.checks) (accepted k)) c.dict-dict.ensures c.source-accepted.ensures.is_accepted)
    s.timeline.now c.args.slot c.loop-next.found c.loop-next.todo.items
    (emptied c.loop-next.todo.items c.pop.new.self.items _ c.in_default.ensures.cases.0 c.in_default.ensures.rest c.in_default.ensures.items)
    c.loop-next.invariant
