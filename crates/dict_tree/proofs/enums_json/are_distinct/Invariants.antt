use Rattle.std.proofs.Common.{◌≡◌, [], map, drop}
use Rattle.dict_tree.proofs.DistinctLaws.{are_new}
use Rattle.dict_tree.proofs.enums_json.are_distinct.Given as goal

-- what is left is new exactly where all are distinct
abbrev pub invariant-loop-text : goal.invariant-loop-text
invariant-loop-text l = are_new (map (λ t. t.now) l.seen.keys) (map (λ t. t.now) (drop l.text-index l.texts)) ≡ are_new [] (map (λ t. t.now) l.texts)
