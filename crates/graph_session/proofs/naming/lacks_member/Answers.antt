use Rattle.std.proofs.Common.{ap, sym, ◌∙◌, not}
use Rattle.answers.specs.Meaning.{answered}
use Rattle.dict_meaning.specs.Slots.{is_member}
use Rattle.graph_session.specs.Naming.{lacks_member, named_fact}
use Rattle.graph_session.specs.Rules.{rules, tree_of}
use Rattle.graph_session.proofs.NamingLaws.{found_number, member_home}
use Rattle.graph_session.proofs.naming.lacks_member.Goals as goal

pub home-requires : goal.home-requires
home-requires c = found_number (tree_of (rules c.args.dict.now)) c.args.path.now c.args.fact c.requires

pub returns-in-Member : goal.returns-in-Member
returns-in-Member c =
    let d = tree_of (rules c.args.dict.now) in
    let a = answered c.args.answers.now in
    let home = member_home d c.in-Member.field-0 c.in-Member.field-2 c.in-Member.member c.args.fact (ap (named_fact d) (sym c.in-Member.is) ∙ c.requires) in
    ap not (c.is_member.ensures ∙ ap (λ h. is_member a h c.in-Member.member) (c.home.ensures ∙ home)) ∙ ap (lacks_member d a) (sym c.in-Member.is)
