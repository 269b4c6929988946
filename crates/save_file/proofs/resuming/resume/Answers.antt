use Rattle.save_file.proofs.Common.{arith}
use Rattle.save_file.proofs.CarriedAnswers.{few_lines}
use Rattle.save_file.proofs.resuming.resume.Goals as goal

pub resume_lines-requires-clause-few : goal.resume_lines-requires-clause-few
resume_lines-requires-clause-few g c = omega (arith, few_lines c.in-Ok.read c.args.bytes.now c.in-Ok.ensures.1, c.requires.short)
