use Rattle.save_file.proofs.Common.{option_copied, refl}
use Rattle.save_file.proofs.OwnLaws.{next_of, none_goes_on}
use Rattle.save_file.proofs.carried_text.read_next.Goals as goal

pub returns-in-Ok-None : goal.returns-in-Ok-None
returns-in-Ok-None c = (refl, none_goes_on (option_copied c.args.whose) c.args.stage c.in-Ok.new c.args.line.now c.args.last c.requires.sound c.requires.own c.in-Ok.ensures (rw c.in-Ok-None.field-0-is at c.in-Ok-None.ensures.position))

pub returns-in-Ok-Some : goal.returns-in-Ok-Some
returns-in-Ok-Some c = (c.in-Ok.ensures, next_of (option_copied c.args.whose) c.args.stage c.in-Ok.new c.requires.sound c.args.last c.requires.own c.in-Ok.ensures.2 c.in-Ok-Some.position (rw c.in-Ok-Some.field-0-is at c.in-Ok-Some.ensures.position))
