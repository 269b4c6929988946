use Rattle.std.proofs.Common.{ap, ◌∙◌}
use Rattle.std.specs.Prelude.{codes}
use Rattle.serde_json.specs.Data.{put}
use Rattle.serde_json.specs.View.{members_view}
use Rattle.dict_print.proofs.fact_value.put_pair.Goals as goal

pub returns : goal.returns
returns c = c.in_ok-put.ensures.ok ∙ ap (λ d. put (codes "conditional") d (members_view c.args.members.now.entries)) c.in_ok-value.ensures
