use Rattle.std.proofs.Common.{[], ◌∷◌, subst}
use Rattle.graph_session.specs.Rules.{rules}
use Rattle.graph_session.specs.Run.{is_memory}
use Rattle.graph_session.specs.SessionView.{session_state}
use Rattle.session_lines.specs.Answering.{OutputAs}
use Rattle.session_lines.specs.Marks.{marked_lines}
use Rattle.session_lines.specs.Replies.{missing_output, refusal_text}
use Rattle.session_lines.proofs.AnsweringLaws.{refusal_output}
use Rattle.session_lines.proofs.listing.answer_missing.Goals as goal

pub returns-in-Ok-clause-output : goal.returns-in-Ok-clause-output
returns-in-Ok-clause-output g c =
    subst (λ o. OutputAs (g.K.Sink.output c.args.out.now) (g.K.Sink.output c.write_missing.new.out) (marked_lines c.args.mark (missing_output (rules c.args.session.now.dict) (session_state c.args.session.now) o)) c.write_missing.result)
    c.in-Ok.ensures.found c.write_missing.ensures.output

pub returns-in-Err-clause-output : goal.returns-in-Err-clause-output
returns-in-Err-clause-output g c =
    subst (λ o. OutputAs (g.K.Sink.output c.args.out.now) (g.K.Sink.output c.write_refusal.new.out) (marked_lines c.args.mark (missing_output (rules c.args.session.now.dict) (session_state c.args.session.now) o)) c.write_refusal.result)
    c.in-Err.ensures.found (refusal_output _ _ (marked_lines c.args.mark (refusal_text c.in-Err.refusal ∷ [])) (is_memory c.in-Err.refusal) c.write_refusal.result c.write_refusal.ensures.written)
