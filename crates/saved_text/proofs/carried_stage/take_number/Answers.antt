use Rattle.saved_text.proofs.Common.{refl, sym}
use Rattle.saved_text.proofs.CarriedSteps.{no_next_number, no_next_word, number_taken}
use Rattle.saved_text.proofs.carried_stage.take_number.Goals as goal

pub returns-in_default : goal.returns-in_default
returns-in_default c = no_next_word c.args.line.now (sym c.in_default.ensures)

pub returns-in_default-read_next : goal.returns-in_default-read_next
returns-in_default-read_next c = no_next_number c.args.line.now c.in-Some.digits.now (sym c.in-Some.ensures) c.in_default-read_next.ensures

pub returns : goal.returns
returns c = number_taken c.args.line.now c.in-Some.digits.now c.in-Some-read_next.next (sym c.in-Some.ensures) c.in-Some-read_next.ensures.0 c.in-Some-read_next.ensures.1
    (record { next = c.in-Some-read_next.next; lines = c.new.result; keys = c.new-2.result; rank = 0 }) refl c.new.ensures.items c.new-2.ensures refl
