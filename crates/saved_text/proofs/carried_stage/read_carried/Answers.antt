use Rattle.saved_text.proofs.Common.{Err, HasNoNewline, JudgesCarried, LineFault, refl, subst, sym}
use Rattle.saved_text.proofs.CarriedTexts.{no_bytes, text_refused, text_taken}
use Rattle.saved_text.proofs.carried_stage.read_carried.Goals as goal

pub returns-in_default : goal.returns-in_default
returns-in_default c = (refl, no_bytes c.args.stage c.args.line.now (λ h. c.in_default.ensures.cases.0 h.utf8))

pub returns-in-Ok-take_line : goal.returns-in-Ok-take_line
returns-in-Ok-take_line c = text_taken c.args.stage c.in-Ok-take_line.new c.args.line.now c.in-Ok.text.now c.args.number c.in-Ok.ensures.cases.0 c.in-Ok-take_line.ensures

pub returns-in-Err-BadLine : goal.returns-in-Err-BadLine
returns-in-Err-BadLine c =
    text_refused c.args.stage c.args.line.now c.in-Ok.text.now c.args.number c.in-Ok.ensures.cases.0
    (subst (λ (f : LineFault). JudgesCarried c.args.stage c.in-Ok.text.now (Err f)) c.in-Err-BadLine.field-0-is c.in-Err-BadLine.ensures)

pub take_line-requires-clause-line : goal.take_line-requires-clause-line
take_line-requires-clause-line c = subst HasNoNewline (sym c.in-Ok.ensures.cases.0) c.requires.line
