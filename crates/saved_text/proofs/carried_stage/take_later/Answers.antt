use Rattle.saved_text.proofs.Common.{false, true, ◌≡◌}
use Rattle.saved_text.proofs.CarriedSteps.{end_taken, later_fault, later_taken}
use Rattle.saved_text.proofs.carried_stage.take_later.Goals as goal

pub returns-then-is_word : goal.returns-then-is_word
returns-then-is_word c = end_taken c.args.read c.requires.sound c.args.line.now (c.is_word.ensures.0 c.if-is_word.true)

pub returns-in-Err : goal.returns-in-Err
returns-in-Err c =
    later_fault c.args.read c.requires.sound c.args.line.now (λ e. (let is_it : c.is_word.result ≡ true = c.is_word.ensures.1 e in let is_not : c.is_word.result ≡ false = c.if-is_word.false in cc)) c.in-Err.fault c.in-Err.ensures

pub returns-in-Ok : goal.returns-in-Ok
returns-in-Ok c = later_taken c.args.read c.requires.sound c.args.line.now c.take_text.new.read c.in-Ok.ensures
