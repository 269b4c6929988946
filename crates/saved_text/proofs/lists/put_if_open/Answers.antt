use Rattle.saved_text.proofs.Common.{List, Ok, Option, accepted, answered, list_lines_of, names_of, subst, sym, ℕ}
use Rattle.fg_io.specs.declared.error.Failed.{Failed}
use Rattle.saved_text.proofs.LinesLeft.{wrote_none}
use Rattle.saved_text.proofs.SlotTexts.{list_slot, open_list, open_list_members}
use Rattle.saved_text.specs.Writing.{WroteAs}
use Rattle.saved_text.proofs.lists.put_if_open.Goals as goal

pub put_list-requires-clause-collection : goal.put_list-requires-clause-collection
put_list-requires-clause-collection g c =
    let d = accepted c.args.dict.now in
    list_slot (names_of c.args.dict.now.checks) d c.source-accepted.ensures.is_accepted c.args.fact
    (open_list d.tree (answered c.args.answers.now) c.requires c.args.fact c.in-Some.members.now (sym c.in-Some.ensures))

pub put_list-requires-clause-members : goal.put_list-requires-clause-members
put_list-requires-clause-members g c =
    open_list_members (accepted c.args.dict.now).tree (answered c.args.answers.now) c.requires c.args.fact c.in-Some.members.now (sym c.in-Some.ensures)

pub returns-in-None : goal.returns-in-None
returns-in-None g c =
    let out = g.K.Sink.output c.args.out.now in
    subst (λ (o : Option (List ℕ)). WroteAs {T = Unit {0}} {E = Failed} out out (list_lines_of (accepted c.args.dict.now).tree c.args.fact o) (Ok tt)) c.in-None.ensures (wrote_none out tt)

pub returns-in-Some : goal.returns-in-Some
returns-in-Some g c =
    subst (λ (o : Option (List ℕ)). WroteAs (g.K.Sink.output c.args.out.now) (g.K.Sink.output c.put_list.new.out) (list_lines_of (accepted c.args.dict.now).tree c.args.fact o) c.put_list.result)
    c.in-Some.ensures c.put_list.ensures
