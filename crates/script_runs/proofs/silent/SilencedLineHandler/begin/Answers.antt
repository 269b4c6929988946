use Rattle.std.proofs.Common.{refl}
use Rattle.answers.specs.Meaning.{answered}
use Rattle.graph_session.specs.Rules.{rules}
use Rattle.script_runs.proofs.MeaningLaws.{silently_begins}
use Rattle.script_runs.proofs.silent.SilencedLineHandler.begin.Goals as goal

pub returns-clause-begins : goal.returns-clause-begins
returns-clause-begins g c = λ relations. silently_begins _ (c.begin.ensures.begins relations)

pub returns-clause-meant : goal.returns-clause-meant
returns-clause-meant g c = λ relations. (g.T.LineHandler.meaning (rules c.args.dictionary) relations (answered c.args.answers), c.in_ok-handler.ensures.meant relations, refl)

pub returns-in_err-handler-clause-begins : goal.returns-in_err-handler-clause-begins
returns-in_err-handler-clause-begins g c = λ relations. silently_begins _ (c.begin.ensures.begins relations)
