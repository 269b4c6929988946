use Rattle.std.proofs.Common.{subst}
use Rattle.script_lines.specs.Lines.{whole}
use Rattle.shared_desk.specs.DeskView.{rules_of}
use Rattle.desk_lines.specs.DeskAnswering.{DeskOutput}
use Rattle.desk_lines.specs.DeskStepping.{step_said}
use Rattle.desk_lines.specs.declared.party_line.PartyLine.{PartyLine}
use Rattle.desk_lines.proofs.AnsweringLaws.{line_output}
use Rattle.desk_lines.proofs.answering.answer_line.Goals as goal

pub returns-in-Ok-clause-answered : goal.returns-in-Ok-clause-answered
returns-in-Ok-clause-answered g c = λ d stands.
    let r = rules_of c.args.desk.now in
    line_output _ _ c.args.desk.now c.answer_said-progress.new.desk r d (whole c.args.line.now) c.answer_said-progress.result
    (subst (λ (s : PartyLine). DeskOutput (g.K.Sink.output c.args.out.now) (g.K.Sink.output c.answer_said-progress.new.out) c.args.desk.now c.answer_said-progress.new.desk (step_said r d s).lines (step_said r d s).state c.answer_said-progress.result) c.in-Ok.ensures (c.answer_said-progress.ensures.output d stands))
