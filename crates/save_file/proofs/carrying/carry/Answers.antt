use Rattle.save_file.proofs.Common.{arith, rules}
use Rattle.save_file.proofs.CarriedAnswers.{carry_refused, carry_result, few_lines}
use Rattle.save_file.proofs.carrying.carry.Goals as goal

pub carry_lines-requires-clause-few : goal.carry_lines-requires-clause-few
carry_lines-requires-clause-few g c = omega (arith, few_lines c.in-Ok.read c.args.bytes.now c.in-Ok.ensures.1, c.requires.short)

pub returns-in-Ok-clause-carried : goal.returns-in-Ok-clause-carried
returns-in-Ok-clause-carried g c = carry_result (rules c.args.dict.now) c.in-Ok.read c.args.bytes.now c.in-Ok.ensures.0 c.in-Ok.ensures.1 c.carry_lines.result c.carry_lines.ensures.carried

pub returns-in-Ok-clause-refused : goal.returns-in-Ok-clause-refused
returns-in-Ok-clause-refused g c = carry_refused c.args.bytes.now c.carry_lines.result c.carry_lines.ensures.memory
