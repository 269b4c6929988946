use Rattle.std.proofs.Common.{◌≡◌, ◌+◌, ◌≤◌, drop, map, cond}
use Rattle.std.specs.List.{fold}
use Rattle.dict_source.specs.Facts.{fact_view}
use Rattle.dict_source.specs.Dictionary.{is_collection}
use Rattle.dict_tree.proofs.limits.has_many_lists.Given as goal

-- those so far, and those of what is left, are all
abbrev pub invariant-loop-fact : goal.invariant-loop-fact
invariant-loop-fact l = record {
  within : l.count ≤ l.fact-index;
  rest : fold (λ n f. n + cond (is_collection f.stated) 1 0) l.count (map fact_view (drop l.fact-index l.facts)) ≡ fold (λ n f. n + cond (is_collection f.stated) 1 0) 0 (map fact_view l.facts);
}
