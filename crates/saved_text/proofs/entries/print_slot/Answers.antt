use Rattle.saved_text.proofs.Common.{List, accepted, ap, append_assoc, arith, codes, length, names_of, side_word, slot_short, slot_text, ℕ, ◌++◌, ◌∙◌, ◌≤◌}
use Rattle.saved_text.proofs.SlotTexts.{length_behind}
use Rattle.saved_text.proofs.entries.print_slot.Goals as goal

pub push-requires-2 : goal.push-requires-2
push-requires-2 c =
    let d = accepted c.args.dict.now in
    let short = slot_short (names_of c.args.dict.now.checks) d c.source-accepted.ensures.is_accepted c.args.slot c.requires.slot in
    let front : length c.push.new.self ≤ 9 = omega (arith, c.push.ensures.len, ap length c.requires.empty, ap length c.as_bytes.ensures.value, c.side_word.ensures.short) in
    let line = length_behind c.print_slot.new.out c.push.new.self (slot_text d.tree c.args.slot) 9 140 c.print_slot.ensures front short in
    omega (arith, line)

pub returns-clause-text : goal.returns-clause-text
returns-clause-text c =
    let d = accepted c.args.dict.now in
    c.push-2.ensures.appended
    ∙ ap (λ (t : List ℕ). t ++ codes " ") (c.print_slot.ensures ∙ ap (λ (t : List ℕ). t ++ slot_text d.tree c.args.slot) (c.push.ensures.appended ∙ ap (λ (t : List ℕ). t ++ c.as_bytes.result.now) c.requires.empty ∙ c.as_bytes.ensures.value ∙ c.side_word.ensures.word))
    ∙ append_assoc (side_word c.args.side) (slot_text d.tree c.args.slot) (codes " ")

pub returns-clause-short : goal.returns-clause-short
returns-clause-short c =
    let d = accepted c.args.dict.now in
    let short = slot_short (names_of c.args.dict.now.checks) d c.source-accepted.ensures.is_accepted c.args.slot c.requires.slot in
    let front : length c.push.new.self ≤ 9 = omega (arith, c.push.ensures.len, ap length c.requires.empty, ap length c.as_bytes.ensures.value, c.side_word.ensures.short) in
    let line = length_behind c.print_slot.new.out c.push.new.self (slot_text d.tree c.args.slot) 9 140 c.print_slot.ensures front short in
    omega (arith, line, c.push-2.ensures.len)
