use Rattle.saved_text.proofs.Common.{false, printed_rest, true, ◌≡◌}
use Rattle.saved_text.proofs.CarriedLines.{bad_list, bad_name}
use Rattle.saved_text.proofs.SlotTexts.{tail_of}
use Rattle.saved_text.proofs.carried_line.with_members.Goals as goal

pub returns-in-Err : goal.returns-in-Err
returns-in-Err c = bad_name c.args.name.now c.requires.name (printed_rest c.args.found.items) (tail_of c.args.found.items) c.in-Err.fault c.in-Err.ensures

pub returns-in-None : goal.returns-in-None
returns-in-None c = bad_list c.args.name.now c.requires.name c.args.found.items c.requires.numbers (λ h. (let bad : false ≡ true = c.in-None.ensures.accepted.1 h in cc))
