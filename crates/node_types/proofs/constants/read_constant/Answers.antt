use Rattle.std.proofs.Common.{◌≡◌, ◌∙◌, ap, sym, subst}
use Rattle.std.specs.Prelude.{string_bytes}
use Rattle.value_text.specs.Enums.{list_place}
use Rattle.value_text.specs.Values.{Gives}
use Rattle.dict_source.specs.View.{literal_of}
use Rattle.node_types.specs.Constants.{choice_value, literal_value}
use Rattle.node_types.proofs.constants.read_constant.Goals as goal

pub returns-in-Choice : goal.returns-in-Choice
returns-in-Choice c =
    let enums = c.args.enums.now in
    let texts : choice_value enums (list_place (string_bytes c.in-Choice.list) enums) (string_bytes c.in-Choice.option) ≡ choice_value enums (list_place c.as_str-in-Choice.result.now enums) c.as_str-in-Choice-2.result.now = cc (c.as_str-in-Choice.ensures.value, c.as_str-in-Choice-2.ensures.value) in
    let same = ap (λ k. literal_value enums (literal_of k)) c.in-Choice.is ∙ texts in
    subst (λ value. Gives value c.choice_or_fault.result) (sym same) c.choice_or_fault.ensures
