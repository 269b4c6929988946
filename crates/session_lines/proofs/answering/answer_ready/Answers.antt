use Rattle.std.proofs.Common.{[], ◌∷◌, refl, subst, sym}
use Rattle.fact_watch.specs.Tables.{named_relations}
use Rattle.graph_session.specs.Rules.{rules}
use Rattle.script_lines.specs.Lines.{long, ready_lines}
use Rattle.script_lines.specs.declared.lines.Ready.{Ready}
use Rattle.session_lines.specs.declared.progress.Progress.TheVariants.{More}
use Rattle.session_lines.specs.Answering.{AnsweredAs, line_state_of}
use Rattle.session_lines.specs.Replies.{long_line_text}
use Rattle.session_lines.proofs.AnsweringLaws.{answers_line, text_step}
use Rattle.session_lines.proofs.WritingLaws.{lines_none}
use Rattle.session_lines.proofs.answering.answer_ready.Goals as goal

pub returns-in-NotYet-clause-answered : goal.returns-in-NotYet-clause-answered
returns-in-NotYet-clause-answered g c =
    let r = rules c.args.session.now.dict in
    let at = g.K.Sink.output c.args.out.now in
    let here = line_state_of c.args.session.now (named_relations c.args.tables.now.relations.now) c.args.watches.now in
    subst (λ (k : Ready). AnsweredAs r at at here here (ready_lines k c.args.line.now) More) (sym c.in-NotYet.is) (lines_none at, refl)

pub returns-in-Long-clause-answered : goal.returns-in-Long-clause-answered
returns-in-Long-clause-answered g c =
    let r = rules c.args.session.now.dict in
    let here = line_state_of c.args.session.now (named_relations c.args.tables.now.relations.now) c.args.watches.now in
    subst (λ (k : Ready). AnsweredAs r (g.K.Sink.output c.args.out.now) (g.K.Sink.output c.write_ended.new.out) here here (ready_lines k c.args.line.now) c.write_ended.result) (sym c.in-Long.is)
    (answers_line _ _ here r here long _ c.write_ended.result refl (text_step _ _ (long_line_text ∷ []) here c.write_ended.result (c.write_ended.ensures.written long_line_text refl)))
