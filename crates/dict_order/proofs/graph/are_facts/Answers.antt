use Rattle.std.proofs.Common.{ℕ, ◌<◌, ◌≤◌, get_or, refl, sym, subst, true≢false, arith}
use Rattle.dict_order.proofs.ListLaws.{has_at, has_place}
use Rattle.dict_order.proofs.graph.are_facts.Goals as goal

pub returns-then-fact-eq0 : goal.returns-then-fact-eq0
returns-then-fact-eq0 c =
    let i = c.loop-fact.fact-index in
    (λ t. absurd (true≢false (sym t)), λ are. absurd (let f = are (get_or c.args.list.now i 0) (has_at c.args.list.now i (omega arith)) in omega (arith, f.0)))

pub returns-then-fact-count : goal.returns-then-fact-count
returns-then-fact-count c =
    let i = c.loop-fact.fact-index in
    (λ t. absurd (true≢false (sym t)), λ are. absurd (let f = are (get_or c.args.list.now i 0) (has_at c.args.list.now i (omega arith)) in omega (arith, f.1)))

pub returns : goal.returns
returns c = (
  λ t fact h.
      let p = has_place c.args.list.now fact h in
      let lt = p.1 in
      subst (λ (x : ℕ). (0 < x) × (x ≤ c.args.count)) p.2 (c.loop-fact.invariant p.0 (omega arith)),
  λ are. refl,
)
