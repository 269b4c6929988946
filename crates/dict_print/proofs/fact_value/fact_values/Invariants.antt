use Rattle.std.proofs.Common.{◌≡◌, drop, map}
use Rattle.std.specs.List.{All}
use Rattle.serde_json.specs.View.{items_view}
use Rattle.dict_source.specs.Facts.{fact_view}
use Rattle.fact_json.specs.FactJson.{IsNamed, items_from}
use Rattle.dict_print.specs.DictionaryJson.{fact_json}
use Rattle.dict_print.specs.Joining.{joined}
use Rattle.dict_print.proofs.fact_value.fact_values.Given as goal

-- the values so far and those of what is left are all; where those of what is left are named, all are
abbrev pub invariant-loop-fact : goal.invariant-loop-fact
invariant-loop-fact l = record {
  values : joined (items_view l.items.items) (items_from fact_json (map fact_view (drop l.fact-index l.facts))) ≡ items_from fact_json (map fact_view l.facts);
  named : All (λ f. IsNamed f.stated) (map fact_view (drop l.fact-index l.facts)) → All (λ f. IsNamed f.stated) (map fact_view l.facts);
}
