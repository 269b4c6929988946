use Rattle.saved_text.proofs.Common.{List, [], accepted, ap, append-nil, append_assoc, arith, codes, length, member_list-length, names_of, printed_rest, slot, slot_short, slot_text, subst, ℕ, ◌++◌, ◌∙◌, ◌∷◌, ◌≤◌}
use Rattle.saved_text.proofs.SlotTexts.{length_behind, members_numbered}
use Rattle.saved_text.specs.Writing.{WroteAs}
use Rattle.saved_text.proofs.lists.put_list.Goals as goal

pub print_members-requires-clause-room : goal.print_members-requires-clause-room
print_members-requires-clause-room g c =
    let d = accepted c.args.dict.now in
    let text = slot_text d.tree (slot c.args.fact 0) in
    let short = slot_short (names_of c.args.dict.now.checks) d c.source-accepted.ensures.is_accepted (slot c.args.fact 0) c.requires.collection in
    let front : length c.push.new.self ≤ 5 = omega (arith, c.push.ensures.len, ap length c.new-line.ensures) in
    let line = length_behind c.print_slot.new.out c.push.new.self text 5 140 c.print_slot.ensures front short in
    omega (arith, line, member_list-length c.args.members.now c.requires.members)

pub print_members-requires-clause-numbers : goal.print_members-requires-clause-numbers
print_members-requires-clause-numbers g c = members_numbered c.args.members.now c.requires.members

pub returns : goal.returns
returns g c =
    let d = accepted c.args.dict.now in
    let text = slot_text d.tree (slot c.args.fact 0) in
    subst (λ (t : List ℕ). WroteAs (g.K.Sink.output c.args.out.now) (g.K.Sink.output c.put_line.new.out) (t ∷ []) c.put_line.result)
    (append-nil c.bytes.result.now
    ∙ c.bytes.ensures.value
    ∙ c.print_members.ensures.appended
    ∙ ap (λ (t : List ℕ). t ++ printed_rest c.args.members.now) (c.print_slot.ensures ∙ ap (λ (t : List ℕ). t ++ text) (c.push.ensures.appended ∙ ap (λ (t : List ℕ). t ++ codes "list ") c.new-line.ensures))
    ∙ append_assoc (codes "list ") text (printed_rest c.args.members.now))
    c.put_line.ensures
