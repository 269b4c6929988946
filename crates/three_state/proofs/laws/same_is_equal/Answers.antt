use Rattle.three_state.proofs.EqualityLaws.{res_same-Decides, value_same-Decides}
use Rattle.three_state.proofs.laws.same_is_equal.Goals as goal

pub returns : goal.returns
returns c = record { value = value_same-Decides; res = res_same-Decides }
