use Rattle.std.proofs.Common.{length, ◌-◌, ◌≡◌, ◌+◌, ◌≤◌, fold, map, drop, true}
use Rattle.operations.specs.ManyFolds.{saw}
use Rattle.operations.specs.NumberRuns.{are_amounts}
use Rattle.node_eval.specs.Globals.{amount_of, global_result, leading}
use Rattle.node_eval.proofs.globals.see_amounts.Given as goal

abbrev pub invariant-loop-seen : goal.invariant-loop-seen
invariant-loop-seen g l =
    let results = g.C.Cells.results l.cells in
    record {
      seen : fold saw l.run (map (global_result results) (drop l.seen l.facts)) ≡ fold saw l.fn.run (map (global_result results) l.facts);
      count : l.run.count ≡ l.fn.run.count + l.seen;
      amounts : are_amounts l.run.kept ≡ true;
      front : leading amount_of (map (global_result results) l.facts) ≡ l.seen + leading amount_of (map (global_result results) (drop l.seen l.facts));
      within : l.seen ≤ length l.facts;
      steps : l.steps ≡ l.fn.steps + l.seen;
    }

abbrev pub decreases-loop-seen : goal.decreases-loop-seen
decreases-loop-seen g l = length l.facts - l.seen
