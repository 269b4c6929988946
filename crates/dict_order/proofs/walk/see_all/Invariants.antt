use Rattle.std.proofs.Common.{◌≡◌, ℕ, ◌<◌, drop, length}
use Rattle.dict_order.specs.Graph.{Has}
use Rattle.dict_order.specs.Walking.{see_all}
use Rattle.dict_order.proofs.walk.see_all.Given as goal

abbrev pub invariant-loop-fact : goal.invariant-loop-fact
invariant-loop-fact l = record {
  rest : see_all (drop l.fact-index l.facts) (l.seen.items, l.todo.items) ≡ see_all l.facts (l.fn.seen.items, l.fn.todo.items);
  within : (k : ℕ) → Has (drop l.fact-index l.facts) k → k < length l.seen.items;
}
