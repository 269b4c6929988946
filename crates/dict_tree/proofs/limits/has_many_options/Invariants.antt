use Rattle.std.proofs.Common.{◌≡◌, drop, map, length}
use Rattle.std.specs.Prelude.{nat_lt}
use Rattle.std.specs.List.{list_any}
use Rattle.dict_tree.specs.DictParsing.{listed_view}
use Rattle.dict_tree.proofs.limits.has_many_options.Given as goal

abbrev pub invariant-loop-list : goal.invariant-loop-list
invariant-loop-list l = list_any (λ e. nat_lt 100 (length e.options)) (map listed_view (drop l.list-index l.enums)) ≡ list_any (λ e. nat_lt 100 (length e.options)) (map listed_view l.enums)
