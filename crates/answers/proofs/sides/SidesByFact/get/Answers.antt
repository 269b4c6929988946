use Rattle.std.proofs.Common.{ap, sym, ◌∙◌}
use Rattle.answers.specs.Finite.{and_then}
use Rattle.answers.specs.Meaning.{side_of}
use Rattle.answers.proofs.SideLaws.{side_at}
use Rattle.answers.proofs.sides.SidesByFact.get.Goals as goal

pub returns-in-Some : goal.returns-in-Some
returns-in-Some c = c.standing.ensures ∙ ap (and_then (side_of c.args.side)) c.in-Some.ensures.value ∙ sym (side_at c.args.side c.args.self.now.by_fact.entries c.args.fact)

pub returns-in-None : goal.returns-in-None
returns-in-None c = ap (and_then (side_of c.args.side)) c.in-None.ensures.value ∙ sym (side_at c.args.side c.args.self.now.by_fact.entries c.args.fact)
