use Rattle.std.proofs.Common.{ℕ, ◌+◌, ◌<◌, ◌≤◌, inl, inr, length, below_more, true≢false, sym, ◌∙◌, arith}
use Rattle.dict_order.specs.Graph.{Graph, HasCycle, Reaches, graph_of}
use Rattle.dict_order.proofs.ListLaws.{at_most_or_above}
use Rattle.dict_order.proofs.MentionLaws.{length_graph, cycle_is_fact}
use Rattle.dict_order.proofs.ordering.first_cycle.Goals as goal

-- a fact below which none reaches itself is a fact, where some fact reaches itself
no_later : (graph : Graph) (fact : ℕ) → HasCycle graph → ((lower : ℕ) → lower < fact → ¬ Reaches graph lower lower) → fact ≤ length graph
no_later graph fact cycle lower = elim (at_most_or_above fact cycle.0) [
  | inl l ↦ let is = cycle_is_fact graph cycle.0 cycle.1 in omega (arith, l, is.1)
  | inr l ↦ absurd (lower cycle.0 l cycle.1)
]

pub reaches_itself-requires-clause-there : goal.reaches_itself-requires-clause-there
reaches_itself-requires-clause-there c = (c.loop-fact.invariant.one, no_later (graph_of c.args.graph.now) c.loop-fact.fact c.requires.cycle c.loop-fact.invariant.lower)

-- this fact doesn't reach itself either
passed : (c : goal.Then-not-branch) → (lower : ℕ) → lower < c.loop-fact.fact + 1 → ¬ Reaches (graph_of c.args.graph.now) lower lower
passed c = below_more (λ (k : ℕ). ¬ Reaches (graph_of c.args.graph.now) k k) c.loop-fact.fact c.loop-fact.invariant.lower (λ r. true≢false (sym (c.in_ok-reaches_itself.ensures.1 r) ∙ c.if-not-branch.true))

next_is_fact : (c : goal.Then-not-branch) → c.loop-fact.fact + 1 ≤ length c.args.graph.now
next_is_fact c =
    let l = no_later (graph_of c.args.graph.now) (c.loop-fact.fact + 1) c.requires.cycle (passed c) in
    omega (arith, l, length_graph c.args.graph.now)

pub overflow_add-fact : goal.overflow_add-fact
overflow_add-fact c = let l = next_is_fact c in omega (arith, l, c.requires.few)

pub loop-fact-smaller : goal.loop-fact-smaller
loop-fact-smaller c = let l = next_is_fact c in omega (arith, l)

pub loop-fact-preserved : goal.loop-fact-preserved
loop-fact-preserved c = record { one = omega arith; lower = passed c }
