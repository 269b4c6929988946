use Rattle.std.proofs.Common.{◌≡◌, ◌+◌, ◌-◌, ◌≤◌, drop, map}
use Rattle.std.specs.List.{fold}
use Rattle.dict_source.specs.Facts.{fact_view, fact_size}
use Rattle.dict_tree.proofs.limits.has_many_nodes.Given as goal

-- the nodes so far, and those of what is left, are all
abbrev pub invariant-loop-fact : goal.invariant-loop-fact
invariant-loop-fact l = record {
  within : l.left ≤ 40000;
  rest : fold (λ n f. n + fact_size f) (40000 - l.left) (map fact_view (drop l.fact-index l.facts)) ≡ fold (λ n f. n + fact_size f) 0 (map fact_view l.facts);
}
