use Rattle.std.proofs.Common.{sym, ap, subst}
use Rattle.graph_session.specs.Rules.{rules}
use Rattle.graph_session.specs.SessionView.{session_state}
use Rattle.graph_session.proofs.RunLaws.{step_count}
use Rattle.shared_desk.specs.Desk.{desk_after}
use Rattle.shared_desk.specs.DeskView.{DeskView, StandsFor, rules_of}
use Rattle.desk_lines.proofs.AnsweringLaws.{refusal_output, reply_output}
use Rattle.desk_lines.proofs.command.answer_session_command.Goals as goal

pub returns-in-Ok-clause-output : goal.returns-in-Ok-clause-output
returns-in-Ok-clause-output g c = λ d stands.
    let r = rules_of c.args.desk.now in
    reply_output _ _ c.args.desk.now c.line.new.self r d (desk_after r d c.args.party c.args.command.now) c.args.party c.args.command.now c.in-Ok.reply c.session.result.now c.write_reply.result
    (c.in-Ok.ensures.reply d stands) (c.in-Ok.ensures.after d stands) c.session.ensures (ap rules c.line.ensures.dict) c.write_reply.ensures.written

pub returns-in-Ok-clause-few : goal.returns-in-Ok-clause-few
returns-in-Ok-clause-few g c = step_count (rules_of c.args.desk.now) (session_state c.args.desk.now.session) c.args.command.now c.in-Ok.reply (session_state c.line.new.self.session) c.in-Ok.ensures.session

pub returns-in-Err-clause-output : goal.returns-in-Err-clause-output
returns-in-Err-clause-output g c = λ d stands.
    refusal_output _ _ c.args.desk.now c.line.new.self (rules_of c.args.desk.now) d c.args.party c.args.command.now c.in-Err.refusal c.write_refusal.result
    (c.in-Err.ensures.refused d stands) c.write_refusal.ensures.written (subst (λ (w : DeskView). StandsFor w d) (sym c.in-Err.ensures.unchanged) stands) c.in-Err.ensures.unchanged
