use Rattle.std.proofs.Common.{◌≡◌, ◌+◌, ◌≤◌, drop, take, sum_by}
use Rattle.answers.specs.Meaning.{answered}
use Rattle.dictionary.specs.AcceptedParts.{accepted}
use Rattle.dict_meaning.specs.Slots.{slots_of}
use Rattle.dict_meaning.specs.Weights.{slot_weight, whole_weight}
use Rattle.visit_counts.specs.SlotVisits.{slot_visits, whole_visits}
use Rattle.full_evaluation.specs.Filling.{HasFacts}
use Rattle.full_evaluation.proofs.filling.fill.Given as goal

abbrev pub invariant-loop-fact : goal.invariant-loop-fact
invariant-loop-fact g l = record {
  ready : g.T.ResultTable.is_ready l.table (accepted l.dict);
  done : HasFacts (accepted l.dict) (answered l.answers) (take l.fact-index l.fact-items) (g.T.ResultTable.results l.table);
  visits : l.steps + sum_by (λ n. sum_by (slot_visits (accepted l.dict) (answered l.answers)) (slots_of (accepted l.dict).tree (answered l.answers) n)) (drop l.fact-index l.fact-items) ≡ l.fn.steps + whole_visits (accepted l.dict) (answered l.answers);
  most : l.steps + sum_by (λ n. sum_by (slot_weight (accepted l.dict) (answered l.answers)) (slots_of (accepted l.dict).tree (answered l.answers) n)) (drop l.fact-index l.fact-items) ≤ l.fn.steps + whole_weight (accepted l.dict) (answered l.answers);
}
