use Rattle.std.proofs.Common.{◌≡◌, ◌∷◌, ◌++◌, [], List, rules, sym, ap, subst, ◌∙◌}
use Rattle.answers.specs.Change.{Change}
use Rattle.answers.specs.Meaning.{answered, change}
use Rattle.session_undo.specs.History.{NewestFits, NewestRoom, stack}
use Rattle.session_undo.proofs.StackLaws.{newest_moved, stack_pushed}
use Rattle.session_undo.proofs.history.move_newest.Goals as goal

pushed : (c : goal.After-drop) → c.push.new.self.items ≡ c.args.to.now.items ++ c.in-Ok.inverse ∷ []
pushed c = search rules

newest : (c : goal.After-drop) → stack c.push.new.self.items ≡ change c.in-Ok.inverse ∷ stack c.args.to.now.items
newest c = ap stack (pushed c) ∙ stack_pushed c.args.to.now.items c.in-Ok.inverse

pub returns-in-Ok-clause-moved : goal.returns-in-Ok-clause-moved
returns-in-Ok-clause-moved c =
    newest_moved c.args.from.now.items c.pop.new.self.items c.args.to.now.items c.push.new.self.items c.in-Some.edit c.in-Ok.inverse (answered c.args.answers.now) (answered c.apply.new.self)
    c.in-Some.ensures.items (pushed c) c.in-Ok.ensures.new c.in-Ok.ensures.back

pub returns-in-Ok-clause-inverse_fits : goal.returns-in-Ok-clause-inverse_fits
returns-in-Ok-clause-inverse_fits c = λ some. subst (λ (l : List Change). NewestFits l (answered c.apply.new.self)) (sym (newest c)) c.in-Ok.ensures.undoes.0

pub returns-in-Ok-clause-can_return : goal.returns-in-Ok-clause-can_return
returns-in-Ok-clause-can_return c = λ some. (subst (λ (l : List Change). NewestRoom l c.apply.new.self) (sym (newest c)) c.in-Ok.ensures.room_back, search rules)
