use Rattle.dict_source.specs.Dictionary.{dictionary_view}
use Rattle.node_compile.proofs.FactLaws.{next_fact}
use Rattle.node_compile.proofs.compiled.compile_facts.Goals as goal

pub loop-i-preserved : goal.loop-i-preserved
loop-i-preserved c =
    next_fact (dictionary_view c.args.source.now) c.facts-facts.result.now c.loop-i.i c.index-facts-i.result c.loop-i.all.items c.push.new.self.items c.in_ok-nodes.nodes _
    c.loop-i-test.true c.index-facts-i.is c.loop-i.invariant c.in_ok-nodes.ensures c.in_ok-push.ensures.items
