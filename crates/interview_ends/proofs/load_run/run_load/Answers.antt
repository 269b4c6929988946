use Rattle.interview_ends.proofs.LastLineLaws.{ended_by}
use Rattle.interview_ends.proofs.LoadLaws.{generated_by, summary_put}
use Rattle.interview_ends.proofs.load_run.run_load.Goals as goal

pub returns-in-Ok : goal.returns-in-Ok
returns-in-Ok g c =
    let summary = c.in-Ok.ensures.summary in
    let ended = (rw c.as_slice.ensures.value at c.end_by_lines.ensures) _ summary.2 in
    record {
      generated = generated_by _ _ summary.0 summary.1 (record { before = g.K.Sink.output c.args.out.now; after = g.K.Sink.output c.end_by_lines.new.out }) c.end_by_lines.result (ended_by _ _ _ _ c.end_by_lines.result ended);
      puts = summary_put _ _ summary.0 summary.1 g.K.Sink.output c.args.out.now c.end_by_lines.new.out c.end_by_lines.result ended;
    }
