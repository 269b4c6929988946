use Rattle.std.proofs.Common.{◌≡◌, subst, sym}
use Rattle.std.specs.Prelude.{IfOk}
use Rattle.desk_lines.specs.declared.party_line.PartyLine.{PartyLine}
use Rattle.desk_lines.proofs.SayingLaws.{said_of_none, said_of_part}
use Rattle.desk_lines.proofs.party_line.read_party_line.Goals as goal

pub returns-in-None : goal.returns-in-None
returns-in-None c = sym (said_of_none c.args.line.now (sym c.if-is_silent.ensures) (sym c.in-None.ensures.part))

pub returns-in-Some : goal.returns-in-Some
returns-in-Some c =
    subst (λ (x : PartyLine). IfOk c.said_behind.result (λ said. said ≡ x))
    (sym (said_of_part c.args.line.now (c.in-Some.party, c.in-Some.rest.now) (sym c.if-is_silent.ensures) (sym c.in-Some.ensures.part))) c.said_behind.ensures
