use Rattle.std.proofs.Common.{ℕ, List, sym, subst}
use Rattle.fact_watch.specs.Tables.{named_relations}
use Rattle.script_lines.specs.declared.command.Command.{Command}
use Rattle.graph_session.specs.Refusals.{slot_found}
use Rattle.graph_session.specs.Rules.{rules}
use Rattle.graph_session.specs.SessionView.{session_state}
use Rattle.session_lines.specs.Answering.{OutputAs, SteppedAs, line_state_of}
use Rattle.session_lines.specs.Replies.{missing_output}
use Rattle.session_lines.specs.Stepping.{step_command}
use Rattle.session_lines.proofs.AnsweringLaws.{output_step}
use Rattle.session_lines.proofs.MarkLaws.{unmarked}
use Rattle.session_lines.proofs.command.answer_host_command.Goals as goal

pub returns-in-Missing-clause-stepped : goal.returns-in-Missing-clause-stepped
returns-in-Missing-clause-stepped g c =
    let r = rules c.args.session.now.dict in
    let here = line_state_of c.args.session.now (named_relations c.args.table.now) c.args.watches.now in
    let found = slot_found r c.args.session.now.timeline.now c.in-Missing.path in
    subst (λ (k : Command). SteppedAs (g.K.Sink.output c.args.out.now) (g.K.Sink.output c.answer_missing.new.out) (step_command r here k) here c.answer_missing.result) (sym c.in-Missing.is)
    (output_step _ _ (missing_output r (session_state c.args.session.now) found) here c.answer_missing.result
    (subst (λ (t : List (List ℕ)). OutputAs (g.K.Sink.output c.args.out.now) (g.K.Sink.output c.answer_missing.new.out) t c.answer_missing.result) (unmarked (missing_output r (session_state c.args.session.now) found)) c.answer_missing.ensures.output))
