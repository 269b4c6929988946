use Rattle.std.proofs.Common.{rules, Some, None, ◌≡◌, false, nat_eq}
use Rattle.std.specs.Prelude.{is_some}
use Rattle.std.specs.Map.{lookup}
use Rattle.answers.specs.Meaning.{maybe_entry}
use Rattle.answers.proofs.FiniteLaws.{one_changed, absent}
use Rattle.answers.proofs.members.Members.take.Goals as goal

pub returns-then-not-contains_key-clause-new : goal.returns-then-not-contains_key-clause-new
returns-then-not-contains_key-clause-new c =
    let none : is_some (lookup (nat_eq c.args.member) c.args.self.now.kept.entries) ≡ false = search rules in
    absent maybe_entry _ c.args.member none

pub returns-in-Ok-Some-clause-new : goal.returns-in-Ok-Some-clause-new
returns-in-Ok-Some-clause-new c = one_changed maybe_entry _ _ c.args.member (Some None) c.in-Ok-Some.ensures.updates.0
