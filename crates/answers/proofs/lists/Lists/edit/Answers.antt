use Rattle.std.proofs.Common.{ℕ, List, Option, Some, refl, sym, ap, ◌∙◌}
use Rattle.answers.specs.Finite.{put_at}
use Rattle.answers.specs.ListEdits.{edited}
use Rattle.answers.specs.Meaning.{lists_of}
use Rattle.answers.proofs.FiniteLaws.{one_changed}
use Rattle.answers.proofs.LookUps.{at_key}
use Rattle.answers.proofs.lists.Lists.edit.Goals as goal

pub edit-requires : goal.edit-requires
edit-requires c = rw (at_key (λ (o : Option (List ℕ)). o) _ c.args.list c.in-Some.listed.now c.in-Some.ensures.value) at c.requires.fits

pub returns-in-Some-clause-new : goal.returns-in-Some-clause-new
returns-in-Some-clause-new c = one_changed (λ (o : Option (List ℕ)). o) _ _ c.args.list (Some c.edit.new.self) ((c.get_mut.follows.holds c.edit.new.self).3 (rw (← c.in-Some.ensures.value) refl)).0
    ∙ ap (put_at (lists_of c.args.self.now) c.args.list) (c.edit.ensures ∙ ap (edited c.args.edit) (sym (at_key (λ (o : Option (List ℕ)). o) _ c.args.list c.in-Some.listed.now c.in-Some.ensures.value)))

pub returns-in-Some-clause-has_place : goal.returns-in-Some-clause-has_place
returns-in-Some-clause-has_place c = rw (((c.get_mut.follows.holds c.edit.new.self).3 (rw (← c.in-Some.ensures.value) refl)).1) refl
