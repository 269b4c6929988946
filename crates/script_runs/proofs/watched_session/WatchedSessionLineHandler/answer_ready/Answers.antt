use Rattle.std.proofs.Common.{ap}
use Rattle.graph_session.specs.Rules.{rules}
use Rattle.script_runs.proofs.AnsweredLineLaws.{session_output, steps_output}
use Rattle.script_runs.proofs.watched_session.WatchedSessionLineHandler.answer_ready.Goals as goal

pub returns : goal.returns
returns g c = record {
  output = session_output _ c.args.self.now.session c.answer_ready.new.session c.args.self.now.watches c.answer_ready.new.watches (g.K.Sink.output c.args.out.now) (g.K.Sink.output c.answer_ready.new.out) c.answer_ready.ensures.dict _ c.answer_ready.result c.answer_ready.ensures.answered c.answer_ready.ensures.kept;
  same_rules = ap rules c.answer_ready.ensures.dict;
  few = c.answer_ready.ensures.few;
  later = c.answer_ready.ensures.later;
  quiet = λ q. absurd cc;
  unfailing = λ q. absurd cc;
  steps = steps_output _ _ _ _ _ c.answer_ready.ensures.steps;
}
