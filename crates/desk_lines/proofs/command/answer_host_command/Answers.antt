use Rattle.std.proofs.Common.{ap, refl}
use Rattle.script_lines.specs.declared.command.Command.TheVariants.{Missing}
use Rattle.shared_desk.specs.DeskView.{rules_of}
use Rattle.desk_lines.specs.DeskStepping.{step_asked}
use Rattle.desk_lines.proofs.AnsweringLaws.{missing_is_output, step_output}
use Rattle.desk_lines.proofs.command.answer_host_command.Goals as goal

pub returns-in-Missing-clause-output : goal.returns-in-Missing-clause-output
returns-in-Missing-clause-output g c = λ d stands.
    let r = rules_of c.args.desk.now in
    step_output _ _ c.args.desk.now c.args.desk.now (step_asked r d c.args.party c.args.command.now) (step_asked r d c.args.party (Missing c.in-Missing.path)) c.answer_missing.result
    (ap (step_asked r d c.args.party) c.in-Missing.is)
    (missing_is_output (g.K.Sink.output c.args.out.now) (g.K.Sink.output c.answer_missing.new.out) c.args.desk.now c.args.desk.now d c.args.party c.in-Missing.path c.session.result.now c.answer_missing.result
    c.session.ensures stands refl c.answer_missing.ensures.output)
