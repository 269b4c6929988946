use Rattle.saved_text.proofs.Common.{arith, length, line_of, new_or_fault, ◌<◌, ◌≤◌}
use Rattle.saved_text.proofs.CarriedSteps.{is_short, line_fault, of_text, too_long}
use Rattle.saved_text.proofs.carried_stage.take_text.Goals as goal

pub returns-then-line-gt-MOST_BYTES : goal.returns-then-line-gt-MOST_BYTES
returns-then-line-gt-MOST_BYTES c = too_long c.args.read.now c.args.line.now (let long : 4096 < length c.args.line.now = omega arith in long)

pub returns-in-Err : goal.returns-in-Err
returns-in-Err c = line_fault c.args.read.now c.args.line.now c.in-Err.fault c.in-Err.ensures

pub take_line-requires-clause-form : goal.take_line-requires-clause-form
take_line-requires-clause-form c = c.in-Ok.ensures.0

pub take_line-requires-clause-short : goal.take_line-requires-clause-short
take_line-requires-clause-short c = is_short c.args.read.now c.args.line.now (line_of c.in-Ok.line) c.in-Ok.ensures.1 (let short : length c.args.line.now ≤ 4096 = omega arith in short)

pub returns-in-Ok : goal.returns-in-Ok
returns-in-Ok c = of_text c.args.read.now c.args.line.now (line_of c.in-Ok.line) c.in-Ok.ensures.0 c.in-Ok.ensures.1 (new_or_fault c.take_line.new.read c.take_line.result) c.take_line.ensures
