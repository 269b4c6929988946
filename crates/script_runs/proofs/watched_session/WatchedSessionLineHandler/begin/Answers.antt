use Rattle.answers.specs.Meaning.{answered}
use Rattle.graph_session.specs.Rules.{rules}
use Rattle.session_lines.specs.Stepping.{at_start}
use Rattle.script_runs.proofs.MeaningLaws.{session_begins}
use Rattle.script_runs.proofs.AnsweredLineLaws.{begun_means}
use Rattle.script_runs.proofs.watched_session.WatchedSessionLineHandler.begin.Goals as goal

pub returns-clause-begins : goal.returns-clause-begins
returns-clause-begins g c = λ relations. session_begins (rules c.args.dictionary) (at_start (rules c.args.dictionary) (record { answers = answered c.args.answers; stamps = g.E.FactEngine.STAMPS; relations = relations })).standing

pub returns-clause-meant : goal.returns-clause-meant
returns-clause-meant g c = λ relations. begun_means relations c.args.dictionary (answered c.args.answers) g.E.FactEngine.STAMPS _ _ c.in_ok-session.ensures c.new-watches.ensures

pub returns-in_err-session-clause-begins : goal.returns-in_err-session-clause-begins
returns-in_err-session-clause-begins g c = λ relations. session_begins (rules c.args.dictionary) (at_start (rules c.args.dictionary) (record { answers = answered c.args.answers; stamps = g.E.FactEngine.STAMPS; relations = relations })).standing
