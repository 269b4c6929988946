use Rattle.std.proofs.Common.{◌∙◌}
use Rattle.value_text.proofs.EnumLemmas.{lookup-is_among}
use Rattle.value_text.proofs.enum_lists.has_list.Goals as goal

pub returns : goal.returns
returns c = c.contains_key.ensures ∙ lookup-is_among c.args.name.now c.args.lists.now.entries
