use Rattle.saved_text.proofs.Common.{BadLine, CarriedStage, Err, IsCarriedStage, JudgesCarried, subst, sym}
use Rattle.saved_text.proofs.CarriedSteps.{none_behind_end}
use Rattle.saved_text.proofs.carried_stage.take_line.Goals as goal

pub returns-in-Opening : goal.returns-in-Opening
returns-in-Opening c = subst (λ (s : CarriedStage). JudgesCarried s c.args.line.now c.take_opening.result) (sym c.in-Opening.is) c.take_opening.ensures

pub returns-in-Number : goal.returns-in-Number
returns-in-Number c = subst (λ (s : CarriedStage). JudgesCarried s c.args.line.now c.take_number.result) (sym c.in-Number.is) c.take_number.ensures

pub take_later-requires-clause-sound : goal.take_later-requires-clause-sound
take_later-requires-clause-sound c = subst IsCarriedStage c.in-Lines.is c.requires.sound

pub returns-in-Lines : goal.returns-in-Lines
returns-in-Lines c = subst (λ (s : CarriedStage). JudgesCarried s c.args.line.now c.take_later.result) (sym c.in-Lines.is) c.take_later.ensures

pub returns : goal.returns
returns c = subst (λ (s : CarriedStage). JudgesCarried s c.args.line.now (Err BadLine)) (sym c.in-Whole.is) (none_behind_end c.in-Whole.field-0 (subst IsCarriedStage c.in-Whole.is c.requires.sound) c.args.line.now)
