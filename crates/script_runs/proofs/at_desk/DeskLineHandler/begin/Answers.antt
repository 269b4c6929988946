use Rattle.answers.specs.Meaning.{answered}
use Rattle.graph_session.specs.Rules.{rules}
use Rattle.desk_lines.specs.DeskStepping.{desk_at_start}
use Rattle.script_runs.proofs.MeaningLaws.{desk_begins}
use Rattle.script_runs.proofs.AnsweredLineLaws.{desk_begun_means}
use Rattle.script_runs.proofs.at_desk.DeskLineHandler.begin.Goals as goal

pub returns-clause-begins : goal.returns-clause-begins
returns-clause-begins g c = λ relations. desk_begins (rules c.args.dictionary) (desk_at_start (rules c.args.dictionary) (answered c.args.answers)).desk

pub returns-clause-meant : goal.returns-clause-meant
returns-clause-meant g c = λ relations. desk_begun_means c.args.dictionary (answered c.args.answers) _ c.in_ok-desk.ensures.begun c.in_ok-desk.ensures.dict

pub returns-in_err-desk-clause-begins : goal.returns-in_err-desk-clause-begins
returns-in_err-desk-clause-begins g c = λ relations. desk_begins (rules c.args.dictionary) (desk_at_start (rules c.args.dictionary) (answered c.args.answers)).desk
