use Rattle.std.proofs.Common.{◌≡◌, ◌≤◌, ◌+◌, ◌++◌, length, map, true}
use Rattle.std.specs.Vec.Iter.{into_iter_items}
use Rattle.dict_tree.specs.DictParsing.{listed_view}
use Rattle.dict_tree.specs.Listing.{may_all_follow}
use Rattle.dict_tree.proofs.dict_json.lists_of.Given as goal

-- those so far and those that are left are all, and these may follow
abbrev pub invariant-loop-list : goal.invariant-loop-list
invariant-loop-list l = record {
  whole : l.lists ++ map listed_view (into_iter_items l.list-iterator) ≡ map listed_view l.fn.enums.items;
  few : length l.lists + length (into_iter_items l.list-iterator) ≤ 200;
  fit : may_all_follow l.lists (map listed_view (into_iter_items l.list-iterator)) ≡ true;
}
