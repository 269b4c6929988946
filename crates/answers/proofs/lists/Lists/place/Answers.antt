use Rattle.std.proofs.Common.{rules, ◌≡◌, ℕ, List, Option, false, nat_eq}
use Rattle.std.specs.Prelude.{is_some}
use Rattle.std.specs.Map.{lookup}
use Rattle.answers.proofs.LookUps.{placed}
use Rattle.answers.proofs.lists.Lists.place.Goals as goal

pub returns-in-Ok-clause-same : goal.returns-in-Ok-clause-same
returns-in-Ok-clause-same c =
    let none : is_some (lookup (nat_eq c.args.list) c.args.self.now.kept.entries) ≡ false = search rules in
    placed (λ (o : Option (List ℕ)). o) _ _ c.args.list c.in_ok-listed.listed c.in_ok-listed.ensures none c.in-Ok.ensures.updates.0
