use Rattle.std.proofs.Common.{◌≡◌, ◌++◌, drop, map}
use Rattle.dict_tree.proofs.enums_json.texts_of.Given as goal

abbrev pub invariant-loop-name : goal.invariant-loop-name
invariant-loop-name l = map (λ t. t.now) l.texts.items ++ drop l.name-index l.names ≡ l.names
