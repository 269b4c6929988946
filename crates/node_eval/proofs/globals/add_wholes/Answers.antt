use Rattle.std.proofs.Common.{◌-◌, length}
use Rattle.three_state.specs.Results.{ValueHoldsMemory}
use Rattle.node_eval.specs.Globals.{global_result}
use Rattle.node_eval.proofs.FrontLaws.{some_of_rest}
use Rattle.node_eval.proofs.globals.add_wholes.Goals as goal

pub returns-clause-memory : goal.returns-clause-memory
returns-clause-memory g c is_err =
    some_of_rest (λ fact. ValueHoldsMemory (global_result (g.C.Cells.results c.args.cells.now) fact)) c.see_wholes-wholes.result (length c.args.facts.now - c.see_wholes-wholes.result) c.args.facts.now (c.see_rest.ensures.memory is_err)
