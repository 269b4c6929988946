use Rattle.std.proofs.Common.{Bool, not, IsTrue, subst}
use Rattle.fact_graph_c.proofs.ConsultingLaws.{asks_no_check}
use Rattle.fact_graph_c.proofs.consulting.asks_no_check.Goals as goal

pub returns : goal.returns
returns c = λ none. asks_no_check c.args.line.now (subst (λ (b : Bool). IsTrue (not b)) c.may_set.ensures none)
