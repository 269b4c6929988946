use Rattle.std.proofs.Common.{arith, ◌≡◌, ◌+◌, ap, length, length-append, List, ℕ, Bool, false, replicate, subst, [], ◌∷◌}
use Rattle.std.proofs.lemmas.List.{length-replicate, nil_from_length}
use Rattle.dict_order.specs.Graph.{graph_of, mentioned}
use Rattle.dict_order.specs.Walking.{State, IsSeen}
use Rattle.dict_order.proofs.MentionLaws.{length_graph}
use Rattle.dict_order.proofs.WalkLaws.{Seen, Walk, blank, seen_by, starts, goes_on, ends, next_is_fact}
use Rattle.dict_order.proofs.walk.reached.Goals as goal
use Rattle.dict_order.proofs.walk.reached.Goals.{In_ok-see_all-2}

pub loop-next-init : goal.loop-next-init
loop-next-init c =
    let graph = graph_of c.args.graph.now in
    let b : c.in_ok-seen.seen.items ≡ replicate (length c.args.graph.now + 1) false = c.in_ok-seen.ensures.items_if_clones_equal (λ y h. h) in
    let ln : length c.in_ok-seen.seen.items ≡ length graph + 1 = omega (arith, ap length b, length-replicate (length c.args.graph.now + 1) false, length_graph c.args.graph.now) in
    let before : State = (c.in_ok-seen.seen.items, c.new-todo.result.items) in
    let after : State = (c.see_all.new.seen.items, c.see_all.new.todo.items) in
    let m = seen_by graph c.args.from c.mentions.result.now before after c.requires.within c.mentions.ensures ln c.in_ok-see_all.ensures in
    starts graph c.args.from c.in_ok-seen.seen.items after c.requires.within ln
    (λ k h. blank (length c.args.graph.now + 1) k (subst (λ (s : List Bool). IsSeen s k) b h))
    (subst (λ (t : List ℕ). Seen (mentioned graph c.args.from) (c.in_ok-seen.seen.items, t) after) c.new-todo.ensures.items m)

pub mentions-requires-in-Some : goal.mentions-requires-in-Some
mentions-requires-in-Some c = next_is_fact (graph_of c.args.graph.now) c.args.from c.loop-next.seen.items c.loop-next.todo.items c.pop.new.self.items c.in-Some.next c.in-Some.ensures.items c.loop-next.invariant

step : (c : In_ok-see_all-2) → Seen (mentioned (graph_of c.args.graph.now) c.in-Some.next) (c.loop-next.seen.items, c.pop.new.self.items) (c.see_all-in-Some.new.seen.items, c.see_all-in-Some.new.todo.items)
step c =
    let before : State = (c.loop-next.seen.items, c.pop.new.self.items) in
    let after : State = (c.see_all-in-Some.new.seen.items, c.see_all-in-Some.new.todo.items) in
    seen_by (graph_of c.args.graph.now) c.in-Some.next c.mentions-in-Some.result.now before after c.requires.within c.mentions-in-Some.ensures c.loop-next.invariant.len c.in_ok-see_all-2.ensures

pub loop-next-smaller : goal.loop-next-smaller
loop-next-smaller c =
    let m = step c in
    omega (arith, m.work, ap length c.in-Some.ensures.items, length-append c.pop.new.self.items (c.in-Some.next ∷ []))

pub loop-next-preserved : goal.loop-next-preserved
loop-next-preserved c =
    goes_on (graph_of c.args.graph.now) c.args.from c.loop-next.seen.items c.loop-next.todo.items c.pop.new.self.items c.in-Some.next (c.see_all-in-Some.new.seen.items, c.see_all-in-Some.new.todo.items) c.requires.within c.in-Some.ensures.items c.loop-next.invariant (step c)

pub returns-clause-exact : goal.returns-clause-exact
returns-clause-exact c fact =
    let e : c.loop-next.todo.items ≡ [] = nil_from_length c.loop-next.todo.items (omega (arith, c.in_default.ensures.cases)) in
    ends (graph_of c.args.graph.now) c.args.from c.loop-next.seen.items (subst (λ (t : List ℕ). Walk (graph_of c.args.graph.now) c.args.from c.loop-next.seen.items t) e c.loop-next.invariant) fact
