use Rattle.answers.specs.Meaning.{answered}
use Rattle.graph_session.specs.Naming.{fact_of}
use Rattle.graph_session.specs.Refusals.{add_refusals, first_of}
use Rattle.graph_session.specs.Rules.{rules, tree_of}
use Rattle.graph_session.proofs.StepLaws.{refused_by}
use Rattle.graph_session.proofs.changes.edit_add.Goals as goal

pub returns-in-Err-clause-refused : goal.returns-in-Err-clause-refused
returns-in-Err-clause-refused c =
    refused_by (first_of (add_refusals (rules c.args.dict.now) (answered c.args.answers.now) c.args.path.now)) (fact_of (tree_of (rules c.args.dict.now)) c.args.path.now) c.in-Err.refusal c.in-Err.ensures
