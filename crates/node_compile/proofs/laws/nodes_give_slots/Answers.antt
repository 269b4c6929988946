use Rattle.node_compile.proofs.SlotLaws.{nodes_give_slots, nodes_visit_slots, nodes_weigh_slots}
use Rattle.node_compile.proofs.laws.nodes_give_slots.Goals as goal

pub returns : goal.returns
returns c = record { result = nodes_give_slots; weight = nodes_weigh_slots; visits = nodes_visit_slots }
