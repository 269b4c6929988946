use Rattle.std.proofs.Common.{ℕ, List, Option, Some, refl, sym, ap, ◌∙◌}
use Rattle.answers.specs.Finite.{put_at}
use Rattle.answers.specs.Meaning.{lists_of}
use Rattle.answers.proofs.FiniteLaws.{one_changed}
use Rattle.answers.proofs.LookUps.{at_key}
use Rattle.answers.proofs.lists.Lists.open_with.Goals as goal

pub open_with-requires-clause-closed : goal.open_with-requires-clause-closed
open_with-requires-clause-closed c = sym (at_key (λ (o : Option (List ℕ)). o) _ c.args.list c.in-Some.listed.now c.in-Some.ensures.value) ∙ c.requires.closed

pub returns-in-Some : goal.returns-in-Some
returns-in-Some c = one_changed (λ (o : Option (List ℕ)). o) _ _ c.args.list (Some c.open_with.new.self) ((c.get_mut.follows.holds c.open_with.new.self).3 (rw (← c.in-Some.ensures.value) refl)).0
    ∙ ap (put_at (lists_of c.args.self.now) c.args.list) c.open_with.ensures
