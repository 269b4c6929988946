use Rattle.std.proofs.Common.{sym}
use Rattle.shared_desk.proofs.StandLaws.{early_refuses, line_leaves, line_refuses, line_replies}
use Rattle.shared_desk.proofs.desk.Desk.line.Goals as goal

pub returns-in-None-clause-reply : goal.returns-in-None-clause-reply
returns-in-None-clause-reply g c = λ d f. line_replies c.args.self.now c.answer.new.self d c.args.party c.args.command.now f c.answer.result (sym c.in-None.ensures) c.answer.ensures.stepped.ok

pub returns-in-None-clause-after : goal.returns-in-None-clause-after
returns-in-None-clause-after g c = λ d f. line_leaves c.args.self.now c.answer.new.self d c.args.party c.args.command.now f c.answer.result (sym c.in-None.ensures) c.answer.ensures.stepped.ok c.answer.ensures.stepped.kept

pub returns-in-None-clause-refused : goal.returns-in-None-clause-refused
returns-in-None-clause-refused g c = λ d f. line_refuses c.args.self.now c.answer.new.self d c.args.party c.args.command.now f c.answer.result (sym c.in-None.ensures) c.answer.ensures.stepped.refused

pub returns-in-Some-clause-refused : goal.returns-in-Some-clause-refused
returns-in-Some-clause-refused g c = λ d f. early_refuses c.args.self.now d c.args.party f c.args.command.now c.in-Some.refusal c.in-Some.ensures
