use Rattle.std.proofs.Common.{◌∙◌}
use Rattle.dict_rules.proofs.PlaceLaws.{place_of-names}
use Rattle.dict_rules.proofs.unknown_check.find_check.Goals as goal

pub returns : goal.returns
returns g c = c.find.ensures ∙ place_of-names (λ k. k.name) c.args.checks.now.checks.items c.args.name.now
