use Rattle.visit_counts.proofs.SlotVisitLaws.{slot_visits_within_weight, visits_over_lower}
use Rattle.visit_counts.proofs.laws.slots_visit_as_many_over_lower_facts.Goals as goal

pub returns : goal.returns
returns c = record { lower = visits_over_lower; most = slot_visits_within_weight }
