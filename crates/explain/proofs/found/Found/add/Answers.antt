use Rattle.std.proofs.Common.{◌&&◌, ◌||◌, Bool, nat_eq, ap, ◌∙◌}
use Rattle.common_lemmas.proofs.Numbers.{nat_eq-comm}
use Rattle.common_lemmas.proofs.Bools.{cond_or}
use Rattle.explain.specs.Found.{has}
use Rattle.explain.proofs.found.Found.add.Goals as goal

pub returns-in-Ok-clause-added : goal.returns-in-Ok-clause-added
returns-in-Ok-clause-added c = λ s.
    c.in-Ok.ensures.updates.0 (s.fact, s.member)
    ∙ cond_or (nat_eq c.args.slot.fact s.fact && nat_eq c.args.slot.member s.member) (has c.args.self.now s)
    ∙ ap (λ (b : Bool). b && nat_eq c.args.slot.member s.member || has c.args.self.now s) (nat_eq-comm c.args.slot.fact s.fact)
    ∙ ap (λ (b : Bool). nat_eq s.fact c.args.slot.fact && b || has c.args.self.now s) (nat_eq-comm c.args.slot.member s.member)
