use Rattle.std.proofs.Common.{◌≡◌, drop, map}
use Rattle.value_text.specs.Enums.{list_place}
use Rattle.dict_tree.specs.DictParsing.{listed_view}
use Rattle.dict_tree.proofs.PlaceLaws.{place_from}
use Rattle.dict_tree.proofs.tables_json.list_named.Given as goal

-- the place among those that are left, counted on
abbrev pub invariant-loop-list : goal.invariant-loop-list
invariant-loop-list l = record {
  count : l.place ≡ l.list-index;
  rest : place_from l.place (list_place l.name (map listed_view (drop l.list-index l.enums))) ≡ list_place l.name (map listed_view l.enums);
}
