use Rattle.std.proofs.Common.{true, ap, refl}
use Rattle.answers.specs.Answered.{start}
use Rattle.graph_session.specs.Rules.{rules}
use Rattle.graph_session.specs.SessionView.{SessionView}
use Rattle.fact_watch.specs.Tables.{named_relations}
use Rattle.script_runs.specs.declared.mode.Mode.TheVariants.{Incremental}
use Rattle.script_runs.specs.Meanings.{meaning_of}
use Rattle.script_runs.proofs.MeaningLaws.{meaning_begins}
use Rattle.script_runs.proofs.ScriptLaws.{not_begun}
use Rattle.script_runs.proofs.AnsweredLineLaws.{begun_means}
use Rattle.interview_ends.proofs.load_run.run_made.Goals as goal

pub run-status-requires-clause-meant : goal.run-status-requires-clause-meant
run-status-requires-clause-meant g c = (meaning_of (rules c.args.dictionary) Incremental (named_relations c.args.relations.now) start, meaning_begins (rules c.args.dictionary) Incremental (named_relations c.args.relations.now) start, begun_means _ c.args.dictionary start true _ _ c.in-Ok.ensures.session c.in-Ok.ensures.watches)

pub run-status-requires-clause-unchanged : goal.run-status-requires-clause-unchanged
run-status-requires-clause-unchanged g c = ap (λ (s : SessionView). s.changes) c.in-Ok.ensures.session

pub returns : goal.returns
returns g c = record { ends = not_begun (meaning_of (rules c.args.dictionary) Incremental (named_relations c.args.relations.now) start) (meaning_begins (rules c.args.dictionary) Incremental (named_relations c.args.relations.now) start) _ refl }

pub returns-in-Ok : goal.returns-in-Ok
returns-in-Ok g c = record { ends = c.run-status.ensures.ends (meaning_of (rules c.args.dictionary) Incremental (named_relations c.args.relations.now) start) (meaning_begins (rules c.args.dictionary) Incremental (named_relations c.args.relations.now) start) (begun_means _ c.args.dictionary start true _ _ c.in-Ok.ensures.session c.in-Ok.ensures.watches) }
