use Rattle.saved_text.proofs.Common.{List, [], accepted, ap, append_assoc, arith, codes, length, printed, side_word, slot_text, subst, ℕ, ◌++◌, ◌∙◌, ◌∷◌}
use Rattle.saved_text.specs.Writing.{WroteAs}
use Rattle.saved_text.proofs.entries.put_value.Goals as goal

pub returns : goal.returns
returns g c =
    let d = (accepted c.args.dict.now).tree in
    let back = rw (c.enums.ensures, c.source.ensures.value, c.new-back.ensures) at c.print.ensures.appended in
    subst (λ (t : List ℕ). WroteAs (g.K.Sink.output c.args.out.now) (g.K.Sink.output c.put_line.new.out) (t ∷ []) c.put_line.result)
    ((λ i. (c.bytes.ensures.value ∙ c.print_slot.ensures.text) i ++ (c.bytes-2.ensures.value ∙ back) i)
    ∙ append_assoc (side_word c.args.side) (slot_text d c.args.slot ++ codes " ") (printed d.enums c.args.value.now)
    ∙ ap (λ (t : List ℕ). side_word c.args.side ++ t) (append_assoc (slot_text d c.args.slot) (codes " ") (printed d.enums c.args.value.now)))
    c.put_line.ensures
