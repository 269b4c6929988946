use Rattle.std.proofs.Common.{map, refl, ap, ◌∙◌}
use Rattle.serde_json.specs.Data.{array}
use Rattle.serde_json.specs.View.{view as json, items_view}
use Rattle.serde_json.proofs.Views.{view-Array}
use Rattle.dict_source.specs.Facts.{fact_view}
use Rattle.fact_json.specs.FactJson.{IsNamed, items_from}
use Rattle.dict_print.specs.DictionaryJson.{fact_json}
use Rattle.dict_print.proofs.JoiningLaws.{next, at_end, all_next, all_at_end}
use Rattle.dict_print.proofs.fact_value.fact_values.Goals as goal

pub loop-fact-preserved : goal.loop-fact-preserved
loop-fact-preserved c = record {
  values =
      next (λ f. fact_json (fact_view f)) (λ fs. items_from fact_json (map fact_view fs)) (λ f fs. refl) c.args.facts.now c.loop-fact.fact-index c.fact-item.result c.loop-fact-test.true c.fact-item.is
      (json c.in_ok-value.value) c.in_ok-value.ensures.value (items_view c.loop-fact.items.items) (items_view c.push_value.new.items.items) (items_from fact_json (map fact_view c.args.facts.now))
      c.in_ok-push_value.ensures c.loop-fact.invariant.values;
  named =
      all_next (λ f. IsNamed f.stated) fact_view c.args.facts.now c.loop-fact.fact-index c.fact-item.result c.loop-fact-test.true c.fact-item.is c.in_ok-value.ensures.named (map fact_view c.args.facts.now)
      c.loop-fact.invariant.named;
}

pub returns : goal.returns
returns c = record {
  value =
      view-Array c.loop-fact.items
      ∙ ap array (at_end (λ fs. items_from fact_json (map fact_view fs)) refl c.args.facts.now c.loop-fact.fact-index c.loop-fact-test.false (items_view c.loop-fact.items.items) (items_from fact_json (map fact_view c.args.facts.now)) c.loop-fact.invariant.values);
  named = all_at_end (λ f. IsNamed f.stated) fact_view c.args.facts.now c.loop-fact.fact-index c.loop-fact-test.false (map fact_view c.args.facts.now) c.loop-fact.invariant.named;
}
