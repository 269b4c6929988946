use Rattle.std.proofs.Common.{List, ap, map, ◌∙◌}
use Rattle.answers.specs.Meaning.{answered}
use Rattle.graph_session.specs.Rules.{rules}
use Rattle.save_file.specs.Resuming.{dropped_line}
use Rattle.save_file.specs.declared.reason.Dropped.{Dropped}
use Rattle.fact_graph_c.specs.DroppedLines.{dropped_lines_text}
use Rattle.fact_graph_c.proofs.OpeningLaws.{resumes_over}
use Rattle.fact_graph_c.proofs.resuming.begin_from.Goals as goal

pub returns-in-Ok : goal.returns-in-Ok
returns-in-Ok c = record {
  resumed = resumes_over (rules c.args.dict) c.args.saved.now (answered c.args.resumed.answers) (map dropped_line c.args.resumed.dropped.items) _ c.requires.is_resume c.begin.result
      (c.in-Ok.ensures ∙ ap (λ (ds : List Dropped). dropped_lines_text (map dropped_line ds)) c.as_slice.ensures.value) c.begin.ensures.begun;
  memory = c.begin.ensures.memory;
}
