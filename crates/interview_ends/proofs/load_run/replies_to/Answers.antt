use Rattle.std.proofs.Common.{Some, refl, ap}
use Rattle.answers.specs.Answered.{start}
use Rattle.graph_session.specs.Rules.{rules}
use Rattle.fact_watch.specs.Tables.{named_relations}
use Rattle.script_runs.specs.declared.mode.Mode.TheVariants.{Incremental}
use Rattle.script_runs.specs.Meanings.{meaning_of}
use Rattle.fg_io.specs.SinkState.{SinkState}
use Rattle.fg_io.specs.SourceState.{SourceState}
use Rattle.interview_ends.proofs.LoadLaws.{output_replies}
use Rattle.interview_ends.proofs.load_run.replies_to.Goals as goal

pub returns-in-Done : goal.returns-in-Done
returns-in-Done g c =
    let ended = rw c.in-Done.is at c.run_made-status.ensures.ends in
    record { replies = output_replies (meaning_of (rules c.args.dictionary) Incremental (named_relations c.args.relations.now) start) _ _ _ _ _ (ap (λ (s : SourceState). Some s.left) c.new-source.ensures) (ap (λ (s : SinkState). Some s.taken) c.in_ok-sink.ensures) refl ended.0 }
