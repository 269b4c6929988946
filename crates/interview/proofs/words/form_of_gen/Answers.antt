use Rattle.std.proofs.Common.{arith}
use Rattle.interview.proofs.GenWordLaws.{not_spelled, too_many}
use Rattle.interview.proofs.words.form_of_gen.Goals as goal

pub returns-else-n-le1000 : goal.returns-else-n-le1000
returns-else-n-le1000 c = too_many c.args.number.now c.in-Some.n c.in-Some.ensures.spelled (omega (arith, c.if-n-le1000.false))

pub returns-in-None : goal.returns-in-None
returns-in-None c = not_spelled c.args.number.now c.in-None.ensures.spelled
