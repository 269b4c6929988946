use Rattle.std.proofs.Common.{[], ◌∷◌}
use Rattle.fact_watch.specs.Tables.{named_relations}
use Rattle.graph_session.specs.Rules.{rules}
use Rattle.script_lines.specs.Lines.{whole}
use Rattle.session_lines.specs.Answering.{line_state_of}
use Rattle.session_lines.specs.Replies.{reply_text}
use Rattle.session_lines.proofs.AnsweringLaws.{answers_line, keeps_line, keeps_still, text_step}
use Rattle.session_lines.proofs.QuestionLaws.{step_at_once}
use Rattle.session_lines.proofs.answering.answer_line.Goals as goal

pub returns-in-Some-clause-answered : goal.returns-in-Some-clause-answered
returns-in-Some-clause-answered g c =
    let r = rules c.args.session.now.dict in
    let here = line_state_of c.args.session.now (named_relations c.args.tables.now.relations.now) c.args.watches.now in
    answers_line _ _ here r here (whole c.args.line.now) _ c.write_reply.result (step_at_once r here c.args.line.now c.in-Some.reply c.in-Some.ensures)
    (text_step _ _ (reply_text r here.session_state c.in-Some.reply ∷ []) here c.write_reply.result c.write_reply.ensures.written)

pub returns-in-Some-clause-kept : goal.returns-in-Some-clause-kept
returns-in-Some-clause-kept g c =
    let r = rules c.args.session.now.dict in
    let here = line_state_of c.args.session.now (named_relations c.args.tables.now.relations.now) c.args.watches.now in
    keeps_line r here here (whole c.args.line.now) _ c.write_reply.result (step_at_once r here c.args.line.now c.in-Some.reply c.in-Some.ensures) (keeps_still here c.write_reply.result)
