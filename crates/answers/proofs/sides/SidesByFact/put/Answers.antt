use Rattle.std.proofs.Common.{refl, sym, ap, ◌∙◌}
use Rattle.std.proofs.lemmas.Result.{IfOk-weaker}
use Rattle.answers.specs.Finite.{and_then}
use Rattle.answers.specs.Meaning.{side_of, entry_in}
use Rattle.answers.proofs.SideLaws.{side_at, side_written, side_cleared}
use Rattle.answers.proofs.sides.SidesByFact.put.Goals as goal

pub returns-in-Some-clause-old : goal.returns-in-Some-clause-old
returns-in-Some-clause-old c = c.replace.ensures.old ∙ ap (and_then (side_of c.args.side)) c.in-Some.ensures.value ∙ sym (side_at c.args.side c.args.self.now.by_fact.entries c.args.fact)

pub returns-in-Some-clause-new : goal.returns-in-Some-clause-new
returns-in-Some-clause-new c = side_written c.args.side c.args.self.now.by_fact.entries (c.get_mut.follows.lender c.replace.new.self).entries c.args.fact c.args.value c.replace.new.self
    ((c.get_mut.follows.holds c.replace.new.self).3 (rw (← c.in-Some.ensures.value) refl)).0
    c.replace.ensures.value
    (λ q d. c.replace.ensures.other q d ∙ ap (and_then (side_of q)) c.in-Some.ensures.value ∙ sym (side_at q c.args.self.now.by_fact.entries c.args.fact))

pub returns-in-Some-value-clause-old : goal.returns-in-Some-value-clause-old
returns-in-Some-value-clause-old c =
    IfOk-weaker c.put_first.result _ _ (λ old e. e ∙ ap (and_then (side_of c.args.side)) c.in-None.ensures.value ∙ sym (side_at c.args.side c.args.self.now.by_fact.entries c.args.fact)) c.put_first.ensures.old

pub returns-in-None-value-clause-old : goal.returns-in-None-value-clause-old
returns-in-None-value-clause-old c = ap (and_then (side_of c.args.side)) c.in-None.ensures.value ∙ sym (side_at c.args.side c.args.self.now.by_fact.entries c.args.fact)

pub returns-in-None-value-clause-new : goal.returns-in-None-value-clause-new
returns-in-None-value-clause-new c =
    ap (λ m. entry_in m.entries) c.get_mut.follows.holds-at-none
    ∙ rw c.in-None-value.is (side_cleared c.args.side c.args.self.now.by_fact.entries c.args.fact (sym c.in-None.ensures.value))
