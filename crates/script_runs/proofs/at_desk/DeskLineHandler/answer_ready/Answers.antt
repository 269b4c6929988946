use Rattle.std.proofs.Common.{ap}
use Rattle.graph_session.specs.Rules.{rules}
use Rattle.script_runs.proofs.AnsweredLineLaws.{desk_output, steps_output}
use Rattle.script_runs.proofs.at_desk.DeskLineHandler.answer_ready.Goals as goal

pub returns : goal.returns
returns g c = record {
  output = desk_output c.args.self.now c.answer_ready.new.desk (g.K.Sink.output c.args.out.now) (g.K.Sink.output c.answer_ready.new.out) c.answer_ready.ensures.dict _ c.answer_ready.result c.answer_ready.ensures.answered;
  same_rules = ap rules c.answer_ready.ensures.dict;
  few = c.answer_ready.ensures.few;
  later = c.answer_ready.ensures.later;
  quiet = λ q. absurd cc;
  unfailing = λ q. absurd cc;
  steps = λ m means. steps_output _ _ _ _ _ (c.answer_ready.ensures.steps means.0 means.1) m means.2;
}
