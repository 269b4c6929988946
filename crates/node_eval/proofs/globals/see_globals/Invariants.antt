use Rattle.std.proofs.Common.{◌≡◌, ◌+◌, map, drop}
use Rattle.operations.specs.ManyFolds.{many_from}
use Rattle.node_eval.specs.Globals.{SomeHoldsMemory, global_result}
use Rattle.node_eval.proofs.globals.see_globals.Given as goal

abbrev pub invariant-loop-fact : goal.invariant-loop-fact
invariant-loop-fact g l =
    let results = g.C.Cells.results l.cells in
    record {
      value : many_from l.fold (map (global_result results) (drop l.fact-index l.facts)) ≡ many_from l.fn.seen (map (global_result results) l.facts);
      count : l.fold.count ≡ l.fn.seen.count + l.fact-index;
      steps : l.steps ≡ l.fn.steps + l.fact-index;
      memory : SomeHoldsMemory results (drop l.fact-index l.facts) → SomeHoldsMemory results l.facts;
    }
