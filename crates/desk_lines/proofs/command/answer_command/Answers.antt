use Rattle.std.proofs.Common.{sym}
use Rattle.shared_desk.specs.Desk.{desk_step}
use Rattle.shared_desk.specs.DeskView.{rules_of}
use Rattle.desk_lines.specs.DeskStepping.{step_asked, step_decided}
use Rattle.desk_lines.proofs.AnsweringLaws.{known_asked, step_output}
use Rattle.desk_lines.proofs.command.answer_command.Goals as goal

pub returns-then-is_session_command-clause-output : goal.returns-then-is_session_command-clause-output
returns-then-is_session_command-clause-output g c = λ d stands.
    let r = rules_of c.args.desk.now in
    step_output _ _ c.args.desk.now c.answer_session_command.new.desk (step_asked r d c.args.party c.args.command.now) (step_decided r d c.args.party (desk_step r d c.args.party c.args.command.now)) c.answer_session_command.result
    (known_asked r d c.args.party c.args.command.now (sym c.if-is_session_command.ensures)) (c.answer_session_command.ensures.output d stands)
