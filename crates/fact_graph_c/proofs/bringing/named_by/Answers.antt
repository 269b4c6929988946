use Rattle.fact_graph_c.proofs.BuiltInLaws.{names_none}
use Rattle.fact_graph_c.proofs.bringing.named_by.Goals as goal

pub returns-in-Err : goal.returns-in-Err
returns-in-Err c = names_none c.args.words.now c.in-Err.ensures.cases.0
