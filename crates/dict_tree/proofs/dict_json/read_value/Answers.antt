use Rattle.serde_json.specs.View.{view as json}
use Rattle.dict_tree.proofs.CountingLaws.{few_items}
use Rattle.dict_tree.proofs.dict_json.read_value.Goals as goal

pub read_facts-requires : goal.read_facts-requires
read_facts-requires c =
    few_items (json c.args.value.now) c.in-Some-items_under_facts.items.now.items c.as_slice-3.result.now c.requires c.in-Some-items_under_facts.ensures c.as_slice-3.ensures.value
