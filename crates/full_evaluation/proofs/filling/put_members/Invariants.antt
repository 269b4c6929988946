use Rattle.std.proofs.Common.{◌≡◌, ◌+◌, ◌≤◌, drop, sum_by}
use Rattle.fact_values.specs.declared.slot.Slot.{Slot}
use Rattle.answers.specs.Meaning.{answered}
use Rattle.dictionary.specs.AcceptedParts.{accepted}
use Rattle.dict_meaning.specs.Plain.{IsPlainBelow, rank}
use Rattle.evaluation.specs.Results.{slot}
use Rattle.dict_meaning.specs.Weights.{slot_weight}
use Rattle.visit_counts.specs.SlotVisits.{slot_visits}
use Rattle.full_evaluation.specs.Filling.{filled, is_at}
use Rattle.full_evaluation.proofs.filling.put_members.Given as goal

abbrev pub invariant-loop-member : goal.invariant-loop-member
invariant-loop-member g l = record {
  ready : g.T.ResultTable.is_ready l.table (accepted l.dict);
  filled : (s : Slot) → filled (accepted l.dict) (answered l.answers) (g.T.ResultTable.results l.table) (is_at l.fact (drop l.member-index l.members)) s ≡ filled (accepted l.dict) (answered l.answers) (g.T.ResultTable.results l.fn.table) (is_at l.fact l.members) s;
  below : IsPlainBelow (accepted l.dict) (answered l.answers) (rank (accepted l.dict) l.fact) (g.T.ResultTable.results l.table);
  visits : l.steps + sum_by (λ m. slot_visits (accepted l.dict) (answered l.answers) (slot l.fact m)) (drop l.member-index l.members) ≡ l.fn.steps + sum_by (λ m. slot_visits (accepted l.dict) (answered l.answers) (slot l.fact m)) l.members;
  most : l.steps + sum_by (λ m. slot_weight (accepted l.dict) (answered l.answers) (slot l.fact m)) (drop l.member-index l.members) ≤ l.fn.steps + sum_by (λ m. slot_weight (accepted l.dict) (answered l.answers) (slot l.fact m)) l.members;
}
