use Rattle.std.proofs.Common.{sym, ◌∙◌}
use Rattle.std.proofs.lemmas.Result.{IfOk-weaker}
use Rattle.answers.specs.Meaning.{sides_by_fact}
use Rattle.answers.proofs.SideLaws.{no_sides, nothing_at, side_cleared}
use Rattle.answers.proofs.entries.Entries.put.Goals as goal

pub returns-in-Some-value-clause-old : goal.returns-in-Some-value-clause-old
returns-in-Some-value-clause-old c = IfOk-weaker c.put_first.result _ _ (λ old e. e ∙ sym (nothing_at c.args.side c.args.self.now c.args.fact c.in-None.is)) c.put_first.ensures.old

pub returns-in-None-value-clause-old : goal.returns-in-None-value-clause-old
returns-in-None-value-clause-old c = sym (nothing_at c.args.side c.args.self.now c.args.fact c.in-None.is)

pub returns-in-None-value-clause-new : goal.returns-in-None-value-clause-new
returns-in-None-value-clause-new c = rw c.in-None-value.is (side_cleared c.args.side (sides_by_fact c.args.self.now) c.args.fact (no_sides c.args.self.now c.args.fact c.in-None.is))
