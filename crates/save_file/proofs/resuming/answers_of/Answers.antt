use Rattle.save_file.proofs.Common.{AreOfKept, CarriedText, IsCarried, answered, rules, subst, sym, text_of}
use Rattle.save_file.proofs.ResumeLaws.{carried_left, few_left, text_left}
use Rattle.save_file.proofs.resuming.answers_of.Goals as goal

pub carry_lines-requires-clause-text : goal.carry_lines-requires-clause-text
carry_lines-requires-clause-text g c =
    subst IsCarried (sym (text_left c.args.read.now c.leave_overrides.new.read c.leave_overrides.ensures.next c.leave_overrides.ensures.lines)) (carried_left (text_of c.args.read.now) c.requires.text)

pub carry_lines-requires-clause-few : goal.carry_lines-requires-clause-few
carry_lines-requires-clause-few g c =
    few_left c.args.read.now c.leave_overrides.new.read c.leave_overrides.ensures.next c.leave_overrides.ensures.lines 4294967296 c.requires.few

pub returns-in-Ok-clause-kept : goal.returns-in-Ok-clause-kept
returns-in-Ok-clause-kept g c =
    subst (λ (x : CarriedText). AreOfKept (rules c.args.dict.now) x (answered c.in-Ok.carried.answers))
    (text_left c.args.read.now c.leave_overrides.new.read c.leave_overrides.ensures.next c.leave_overrides.ensures.lines) c.in-Ok.ensures.carried.kept
