use Rattle.saved_text.proofs.Common.{ap, line_of, lists_member, lists_member_of, map, sym, ◌∙◌}
use Rattle.saved_text.proofs.CarriedSteps.{any_of}
use Rattle.saved_text.proofs.carried_read.is_listed.Goals as goal

pub returns-in-Member : goal.returns-in-Member
returns-in-Member c =
    c.have_member.ensures ∙ any_of (lists_member c.in-Member.name c.in-Member.member) c.args.lines.now
    ∙ ap (lists_member_of (map line_of c.args.lines.now)) (sym c.in-Member.is)
