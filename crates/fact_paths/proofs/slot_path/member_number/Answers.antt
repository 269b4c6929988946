use Rattle.std.proofs.Common.{sym, ap, ◌∙◌}
use Rattle.fact_paths.specs.Parsing.{is_numeral}
use Rattle.fact_paths.proofs.MemberNumbers.{none_from_parse}
use Rattle.fact_paths.proofs.slot_path.member_number.Goals as goal

pub returns-in-Err : goal.returns-in-Err
returns-in-Err c =
    let numeral = ap is_numeral (sym c.as_bytes.ensures.value) ∙ sym c.if-not-is_numeral_text.ensures in
    sym (none_from_parse c.parse.result c.args.text.now c.in-Err.field-0 numeral c.parse.ensures.value.0 c.in-Err.is)
