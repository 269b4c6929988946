use Rattle.std.proofs.Common.{Some}
use Rattle.answers.specs.Meaning.{maybe_entry}
use Rattle.answers.proofs.FiniteLaws.{one_changed}
use Rattle.answers.proofs.members.Members.store.Goals as goal

pub returns-in-Ok-clause-new : goal.returns-in-Ok-clause-new
returns-in-Ok-clause-new c = one_changed maybe_entry _ _ c.args.member (Some (Some c.args.entries)) c.in-Ok.ensures.updates.0
