use Rattle.std.proofs.Common.{◌≡◌, map, take}
use Rattle.node_eval.specs.View.{global_read, view}
use Rattle.node_compile.proofs.operands.globals_of.Given as goal

-- what is found so far are the operands that are passed
abbrev pub invariant-loop-operand : goal.invariant-loop-operand
invariant-loop-operand l = map global_read l.facts.items ≡ map view (take l.operand-index l.operands)
