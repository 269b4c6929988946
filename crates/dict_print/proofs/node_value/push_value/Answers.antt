use Rattle.std.proofs.Common.{ap, ◌∙◌}
use Rattle.serde_json.specs.View.{items_view}
use Rattle.dict_print.specs.Joining.{joined}
use Rattle.dict_print.proofs.JoiningLaws.{pushed}
use Rattle.dict_print.proofs.node_value.push_value.Goals as goal

pub returns : goal.returns
returns c = λ rest. ap (λ vs. joined (items_view vs) rest) c.in_ok-push.ensures.items ∙ pushed c.args.items.now.items c.args.value rest
