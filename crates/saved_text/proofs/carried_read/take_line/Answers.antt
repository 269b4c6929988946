use Rattle.saved_text.proofs.Common.{false, has, key_text, line_of, not, sym, true, ◌∙◌, ◌≡◌}
use Rattle.saved_text.proofs.CarriedSteps.{line_result, not_new, not_standing}
use Rattle.saved_text.proofs.carried_read.take_line.Goals as goal

pub returns-then-not-may_stand : goal.returns-then-not-may_stand
returns-then-not-may_stand c = not_standing c.args.read.now c.args.line c.requires.sound (sym c.may_stand.ensures ∙ c.if-not-may_stand.true)

pub returns-in-Ok-false : goal.returns-in-Ok-false
returns-in-Ok-false c =
    let old : not (has c.args.read.now.keys (key_text (line_of c.args.line))) ≡ false = sym c.in-Ok-false.ensures.fresh ∙ c.in-Ok-false.field-0-test in
    not_new c.args.read.now c.args.line c.requires.sound old

pub returns-in-Ok-true : goal.returns-in-Ok-true
returns-in-Ok-true c =
    let new : not (has c.args.read.now.keys (key_text (line_of c.args.line))) ≡ true = sym c.in-Ok-true.ensures.fresh ∙ c.in-Ok-true.field-0-test in
    line_result c.args.read.now c.args.line c.requires.sound c.requires.form c.requires.short (sym c.may_stand.ensures ∙ c.if-not-may_stand.false) new c.note_key.new.keys c.in-Ok-true.ensures.added c.add.new.read c.add.result c.add.ensures.read c.add.ensures.memory
