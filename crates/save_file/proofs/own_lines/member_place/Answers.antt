use Rattle.save_file.proofs.Common.{ap, member_place, place_in, read_lines, sym, ◌∙◌}
use Rattle.save_file.proofs.own_lines.member_place.Goals as goal

pub returns-in-Member-clause-place : goal.returns-in-Member-clause-place
returns-in-Member-clause-place c =
    c.place_in.ensures.place ∙ ap (place_in c.in-Member.member) c.members_named.ensures.members ∙ ap (member_place (read_lines c.args.read.now)) (sym c.in-Member.is)
