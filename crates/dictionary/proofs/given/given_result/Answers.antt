use Rattle.std.proofs.Common.{[], sym, ◌∙◌}
use Rattle.dict_source.specs.Dictionary.{Dictionary}
use Rattle.answers.specs.Meaning.{answered}
use Rattle.dict_meaning.proofs.ListTypes.{open_members}
use Rattle.dictionary.proofs.given.given_result.Goals as goal

pub list_result-requires : goal.list_result-requires
list_result-requires c = λ ms e.
    let any : Dictionary = record { enums = []; tables = []; facts = [] } in
    (open_members any (answered c.args.answers.now) c.requires.well c.requires.from_one c.args.slot.fact ms (sym c.members.ensures ∙ e)).0
