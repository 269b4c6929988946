use Rattle.std.proofs.Common.{map, sym, ap, ◌∙◌}
use Rattle.std.proofs.lemmas.List.{take_all}
use Rattle.node_eval.specs.View.{global_read, trees_of, view}
use Rattle.node_compile.proofs.OperandLaws.{next_compiled}
use Rattle.node_compile.proofs.operands.globals_of.Goals as goal

pub loop-operand-preserved : goal.loop-operand-preserved
loop-operand-preserved c =
    next_compiled global_read view c.args.operands.now c.loop-operand.operand-index c.operand-item.result c.loop-operand.facts.items c.push.new.self.items c.in-Some.fact
    c.loop-operand-test.true c.operand-item.is c.loop-operand.invariant (sym c.in-Some.ensures) c.in_ok-push-in-Some.ensures.items

pub returns : goal.returns
returns c = ap trees_of (c.loop-operand.invariant ∙ ap (map view) (take_all c.loop-operand.operand-index c.args.operands.now c.loop-operand-test.false))
