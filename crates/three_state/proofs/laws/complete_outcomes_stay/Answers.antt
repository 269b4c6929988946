use Rattle.three_state.proofs.OrderLaws.{case_keeps, fields_keep, filter_keeps, find_keeps, junction_keeps, strict_keeps, switch_keeps, through_keeps}
use Rattle.three_state.proofs.laws.complete_outcomes_stay.Goals as goal

pub returns : goal.returns
returns c = record {
  junction = junction_keeps;
  strict = strict_keeps;
  through = through_keeps;
  case = case_keeps;
  switch = switch_keeps;
  filter = filter_keeps;
  find = find_keeps;
  fields = fields_keep;
}
