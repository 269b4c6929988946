use Rattle.std.proofs.Common.{[], ◌∷◌, subst}
use Rattle.graph_session.specs.Rules.{rules}
use Rattle.graph_session.specs.Run.{is_memory}
use Rattle.graph_session.specs.SessionView.{session_state}
use Rattle.session_lines.specs.Answering.{OutputAs}
use Rattle.session_lines.specs.Replies.{refusal_text}
use Rattle.session_lines.specs.SlotReads.{read_answer}
use Rattle.session_lines.proofs.AnsweringLaws.{refusal_output}
use Rattle.session_lines.proofs.reading.answer_reads.Goals as goal

pub returns-in-Ok-clause-output : goal.returns-in-Ok-clause-output
returns-in-Ok-clause-output g c =
    subst (λ o. OutputAs (g.K.Sink.output c.args.out.now) (g.K.Sink.output c.write_reads.new.out) (read_answer (rules c.args.session.now.dict) (session_state c.args.session.now) o) c.write_reads.result)
    c.in-Ok.ensures.found c.write_reads.ensures.output

pub returns-in-Err-clause-output : goal.returns-in-Err-clause-output
returns-in-Err-clause-output g c =
    subst (λ o. OutputAs (g.K.Sink.output c.args.out.now) (g.K.Sink.output c.write_refusal.new.out) (read_answer (rules c.args.session.now.dict) (session_state c.args.session.now) o) c.write_refusal.result)
    c.in-Err.ensures.found (refusal_output _ _ (refusal_text c.in-Err.refusal ∷ []) (is_memory c.in-Err.refusal) c.write_refusal.result c.write_refusal.ensures.written)
