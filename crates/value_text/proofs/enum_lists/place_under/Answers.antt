use Rattle.std.proofs.Common.{◌∙◌}
use Rattle.value_text.proofs.EnumLemmas.{position-list_place}
use Rattle.value_text.proofs.enum_lists.place_under.Goals as goal

pub returns-clause-value : goal.returns-clause-value
returns-clause-value c = c.get_index_of.ensures.index ∙ position-list_place c.args.name.now c.args.lists.now.entries
