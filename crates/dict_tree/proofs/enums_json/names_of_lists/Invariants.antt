use Rattle.std.proofs.Common.{◌≡◌, ◌++◌, drop, map}
use Rattle.value_text.specs.Enums.{names_of}
use Rattle.dict_tree.specs.DictParsing.{listed_view}
use Rattle.dict_tree.proofs.enums_json.names_of_lists.Given as goal

abbrev pub invariant-loop-list : goal.invariant-loop-list
invariant-loop-list l = map (λ t. t.now) l.texts.items ++ names_of (map listed_view (drop l.list-index l.enums)) ≡ names_of (map listed_view l.enums)
