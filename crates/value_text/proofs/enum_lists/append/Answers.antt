use Rattle.value_text.proofs.EnumLemmas.{lists_of-last}
use Rattle.value_text.proofs.enum_lists.append.Goals as goal

pub returns-clause-appended : goal.returns-clause-appended
returns-clause-appended c =
    lists_of-last c.into_string.result c.args.name c.args.options c.args.lists.now.entries c.insert.new.self.entries c.into_string.ensures.text c.requires c.in_ok-insert.ensures.entries
