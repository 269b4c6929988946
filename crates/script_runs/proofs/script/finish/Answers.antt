use Rattle.std.proofs.Common.{List, sym, ap, subst, ◌∙◌}
use Rattle.fact_watch.specs.Tables.{named_relations}
use Rattle.script_lines.specs.Lines.{ScriptLine, ready_lines}
use Rattle.script_runs.specs.AnsweredLines.{LineOutputAs}
use Rattle.script_runs.proofs.script.finish.Goals as goal

pub returns-clause-output : goal.returns-clause-output
returns-clause-output g c = λ m means.
    subst (λ (l : List ScriptLine). LineOutputAs (g.T.LineHandler.means c.answer_ready.new.self (named_relations c.args.tables.now.relations.now)) (g.K.Sink.output c.args.out.now) (g.K.Sink.output c.answer_ready.new.out) m (g.T.LineHandler.stands c.answer_ready.new.self) l c.answer_ready.result)
    (ap (ready_lines c.finish-ready.result) c.line.ensures.line ∙ sym c.finish-ready.ensures.last) (c.answer_ready.ensures.output m means)
