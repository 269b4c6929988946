use Rattle.std.proofs.Common.{[], ◌∷◌, ◌+◌, ◌≤◌, refl, subst, sym, arith}
use Rattle.script_lines.specs.Lines.{long, ready_lines, whole}
use Rattle.script_lines.specs.declared.lines.Ready.{Ready}
use Rattle.session_lines.specs.Replies.{long_line_text}
use Rattle.session_lines.specs.declared.progress.Progress.TheVariants.{More}
use Rattle.shared_desk.specs.DeskView.{rules_of}
use Rattle.desk_lines.specs.DeskAnswering.{DeskAnsweredAs}
use Rattle.desk_lines.specs.DeskStepping.{desk_open}
use Rattle.desk_lines.specs.DeskSteps.{steps_of_desk_lines}
use Rattle.desk_lines.proofs.AnsweringLaws.{line_output, written_output}
use Rattle.desk_lines.proofs.DeskStepLaws.{steps_of_one}
use Rattle.session_lines.proofs.WritingLaws.{lines_none}
use Rattle.desk_lines.proofs.answering.answer_ready.Goals as goal

pub returns-in-NotYet-clause-answered : goal.returns-in-NotYet-clause-answered
returns-in-NotYet-clause-answered g c = λ d stands.
    let at = g.K.Sink.output c.args.out.now in
    subst (λ (k : Ready). DeskAnsweredAs (rules_of c.args.desk.now) at at c.args.desk.now c.args.desk.now d (ready_lines k c.args.line.now) More) (sym c.in-NotYet.is)
    (lines_none at, (stands, refl))

pub returns-in-Long-clause-answered : goal.returns-in-Long-clause-answered
returns-in-Long-clause-answered g c = λ d stands.
    let r = rules_of c.args.desk.now in
    subst (λ (k : Ready). DeskAnsweredAs r (g.K.Sink.output c.args.out.now) (g.K.Sink.output c.write_ended.new.out) c.args.desk.now c.args.desk.now d (ready_lines k c.args.line.now) c.write_ended.result) (sym c.in-Long.is)
    (line_output _ _ c.args.desk.now c.args.desk.now r d long c.write_ended.result
    (written_output _ _ c.args.desk.now c.args.desk.now (long_line_text ∷ []) d c.write_ended.result (c.write_ended.ensures.written long_line_text refl) stands))

pub returns-in-NotYet-clause-steps : goal.returns-in-NotYet-clause-steps
returns-in-NotYet-clause-steps g c = λ d stands. omega arith

pub returns-in-Whole-clause-steps : goal.returns-in-Whole-clause-steps
returns-in-Whole-clause-steps g c = λ d stands.
    let r = rules_of c.args.desk.now in
    subst (λ (k : Ready). c.answer_line.new.steps ≤ c.args.steps.now + steps_of_desk_lines g.E.FactEngine.most r (desk_open d) (ready_lines k c.args.line.now)) (sym c.in-Whole.is)
    (steps_of_one g.E.FactEngine.most r c.args.desk.now d (whole c.args.line.now) _ _ stands c.answer_line.ensures.steps)

pub returns-in-Long-clause-steps : goal.returns-in-Long-clause-steps
returns-in-Long-clause-steps g c = λ d stands. omega arith
