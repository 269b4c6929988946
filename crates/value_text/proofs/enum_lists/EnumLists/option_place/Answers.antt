use Rattle.value_text.proofs.EnumLemmas.{few_at}
use Rattle.value_text.proofs.enum_lists.EnumLists.option_place.Goals as goal

pub place_among-requires : goal.place_among-requires
place_among-requires c = few_at c.args.self.now c.args.list c.in_ok-options.options.now c.in_ok-options.ensures.lists.listed c.in_ok-options.ensures.value
