use Rattle.std.proofs.Common.{◌≡◌, ◌+◌, ◌++◌, drop, map, Result, Ok, Err}
use Rattle.serde_json.specs.View.{items_view}
use Rattle.dict_source.specs.Facts.{fact_view}
use Rattle.dict_tree.specs.DictParsing.{facts_of}
use Rattle.dict_tree.specs.declared.fault.TreeFault.{TreeFault}
use Rattle.dict_tree.proofs.dict_json.read_facts.Given as goal

-- the next step, where the one before found no fault
infixl 10 ◌>>=◌
abbrev pub ◌>>=◌ : {A B : Type 0} → Result A TreeFault → (A → Result B TreeFault) → Result B TreeFault
(Ok x) >>= f = f x
(Err e) >>= f = Err e

-- those so far and those of what is left are all
abbrev pub invariant-loop-item : goal.invariant-loop-item
invariant-loop-item l = record {
  count : l.number ≡ l.item-index;
  rest : (facts_of l.version l.tables (l.number + 1) (items_view (drop l.item-index l.items)) >>= λ fs. Ok (map fact_view l.facts.items ++ fs)) ≡ facts_of l.version l.tables 1 (items_view l.items);
}
