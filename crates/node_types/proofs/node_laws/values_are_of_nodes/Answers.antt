use Rattle.node_types.proofs.ValueLaws.{fact_values-nodes}
use Rattle.node_types.proofs.node_laws.values_are_of_nodes.Goals as goal

pub returns : goal.returns
returns c = fact_values-nodes
