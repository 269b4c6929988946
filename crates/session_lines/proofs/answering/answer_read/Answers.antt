use Rattle.std.proofs.Common.{[], ◌∷◌, refl, ap, subst}
use Rattle.std.specs.Prelude.{IsTrue}
use Rattle.text_checks.specs.Tables.{named_checks}
use Rattle.script_lines.specs.Parsing.{Heard}
use Rattle.graph_session.specs.Refusals.{SameChecks}
use Rattle.fact_watch.specs.Tables.{named_relations}
use Rattle.script_lines.specs.Lines.{whole}
use Rattle.graph_session.specs.Rules.{rules}
use Rattle.session_lines.specs.declared.progress.Progress.TheVariants.{More}
use Rattle.session_lines.specs.Answering.{line_state_of}
use Rattle.session_lines.specs.Replies.{bad_line_text}
use Rattle.session_lines.specs.Stepping.{step_heard}
use Rattle.session_lines.specs.Tables.{heard_asks_checks}
use Rattle.session_lines.proofs.AnsweringLaws.{answers_line, keeps_line, keeps_still, text_step}
use Rattle.session_lines.proofs.WritingLaws.{lines_none}
use Rattle.session_lines.proofs.answering.answer_read.Goals as goal

pub returns-in-Ok-Some-clause-answered : goal.returns-in-Ok-Some-clause-answered
returns-in-Ok-Some-clause-answered g c =
    let r = rules c.args.session.now.dict in
    let here = line_state_of c.args.session.now (named_relations c.args.tables.now.relations.now) c.args.watches.now in
    let says = rw c.in-Ok-Some.field-0-is at c.in-Ok-Some.ensures.heard in
    answers_line _ _ (line_state_of c.answer_command-progress.new.session (named_relations c.args.tables.now.relations.now) c.answer_command-progress.new.watches) r here (whole c.args.line.now) _ c.answer_command-progress.result (ap (step_heard r here) says) c.answer_command-progress.ensures.stepped

pub returns-in-Err-BadLine-clause-answered : goal.returns-in-Err-BadLine-clause-answered
returns-in-Err-BadLine-clause-answered g c =
    let r = rules c.args.session.now.dict in
    let here = line_state_of c.args.session.now (named_relations c.args.tables.now.relations.now) c.args.watches.now in
    let says = rw c.in-Err-BadLine.field-0-is at c.in-Err-BadLine.ensures.heard in
    answers_line _ _ here r here (whole c.args.line.now) _ c.write_ended.result (ap (step_heard r here) says)
    (text_step _ _ (bad_line_text ∷ []) here c.write_ended.result (c.write_ended.ensures.written bad_line_text refl))

pub returns-in-Ok-Some-clause-kept : goal.returns-in-Ok-Some-clause-kept
returns-in-Ok-Some-clause-kept g c =
    let r = rules c.args.session.now.dict in
    let here = line_state_of c.args.session.now (named_relations c.args.tables.now.relations.now) c.args.watches.now in
    let says = rw c.in-Ok-Some.field-0-is at c.in-Ok-Some.ensures.heard in
    keeps_line r here (line_state_of c.answer_command-progress.new.session (named_relations c.args.tables.now.relations.now) c.answer_command-progress.new.watches) (whole c.args.line.now) _ c.answer_command-progress.result (ap (step_heard r here) says) c.answer_command-progress.ensures.kept

pub returns-in-Err-BadLine-clause-kept : goal.returns-in-Err-BadLine-clause-kept
returns-in-Err-BadLine-clause-kept g c =
    let r = rules c.args.session.now.dict in
    let here = line_state_of c.args.session.now (named_relations c.args.tables.now.relations.now) c.args.watches.now in
    let says = rw c.in-Err-BadLine.field-0-is at c.in-Err-BadLine.ensures.heard in
    keeps_line r here here (whole c.args.line.now) _ c.write_ended.result (ap (step_heard r here) says) (keeps_still here c.write_ended.result)

pub answer_command-progress-requires-clause-same_checks : goal.answer_command-progress-requires-clause-same_checks
answer_command-progress-requires-clause-same_checks g c =
    let says = rw c.in-Ok-Some.field-0-is at c.in-Ok-Some.ensures.heard in
    subst (λ (h : Heard). IsTrue (heard_asks_checks h) → SameChecks (rules c.args.session.now.dict) (named_checks c.args.tables.now.checks.now)) says c.requires.same_checks

pub returns-in-Ok-None-clause-answered : goal.returns-in-Ok-None-clause-answered
returns-in-Ok-None-clause-answered g c =
    let r = rules c.args.session.now.dict in
    let here = line_state_of c.args.session.now (named_relations c.args.tables.now.relations.now) c.args.watches.now in
    let says = rw c.in-Ok-None.field-0-is at c.in-Ok-None.ensures.heard in
    answers_line _ _ here r here (whole c.args.line.now) _ More (ap (step_heard r here) says) (lines_none _, refl)
