use Rattle.dict_tree.proofs.LimitLaws.{many_nodes}
use Rattle.dict_tree.proofs.limits.has_many_nodes.Goals as goal

pub returns-in-None : goal.returns-in-None
returns-in-None c = many_nodes c.args.facts.now c.loop-fact.fact-index c.loop-fact.left c.fact-item.result c.loop-fact.invariant.within c.loop-fact-test.true c.fact-item.is c.in-None.ensures c.loop-fact.invariant.rest
