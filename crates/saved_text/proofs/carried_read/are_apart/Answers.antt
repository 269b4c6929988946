use Rattle.saved_text.proofs.Common.{are_others, members_in, ◌∙◌}
use Rattle.saved_text.proofs.CarriedSteps.{all_of}
use Rattle.saved_text.proofs.carried_read.are_apart.Goals as goal

pub returns : goal.returns
returns c = c.are_new.ensures ∙ all_of (λ x. are_others c.args.members.now (members_in x)) c.args.lines.now
