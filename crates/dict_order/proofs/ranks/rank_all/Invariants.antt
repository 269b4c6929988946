use Rattle.std.proofs.Common.{◌≡◌, ℕ, ◌<◌, ◌≤◌, false, []}
use Rattle.dict_order.specs.Graph.{graph_of}
use Rattle.dict_order.specs.Ranking.{Pass, is_new, mark_of}
use Rattle.dict_order.proofs.ranks.rank_all.Given as goal

abbrev pub invariant-loop-place : goal.invariant-loop-place
invariant-loop-place l = record {
  pass : Pass (graph_of l.graph) l.marks.items [];
  met : (fact : ℕ) → 0 < fact → fact ≤ l.place → is_new (mark_of l.marks.items fact) ≡ false;
}
