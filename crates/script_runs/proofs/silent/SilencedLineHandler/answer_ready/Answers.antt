use Rattle.std.proofs.Common.{refl, arith}
use Rattle.fact_watch.specs.Tables.{named_relations}
use Rattle.script_runs.specs.Meanings.{silently}
use Rattle.script_runs.proofs.AnsweredLineLaws.{silent_is_unfailing, silent_output, steps_output}
use Rattle.script_runs.proofs.silent.SilencedLineHandler.answer_ready.Goals as goal

pub returns : goal.returns
returns g c =
    let relations = named_relations c.args.tables.now.relations.now in
    record {
      output = silent_output (g.T.LineHandler.means c.answer_ready.new.self relations) (g.K.Sink.output c.args._out.now) _ _ (g.T.LineHandler.means c.args.self.now.handler relations) c.answer_ready.result c.answer_ready.ensures.output;
      same_rules = c.answer_ready.ensures.same_rules;
      few = c.answer_ready.ensures.few;
      later = omega arith;
      quiet = λ q. refl;
      unfailing = λ q m means. silent_is_unfailing (g.T.LineHandler.means c.answer_ready.new.self relations) (g.K.Sink.output c.args._out.now) _ _ means.0 c.answer_ready.result (c.answer_ready.ensures.output means.0 means.1);
      steps = λ m means. steps_output (silently means.0) _ _ _ _ (c.answer_ready.ensures.steps means.0 means.1) m means.2;
    }
