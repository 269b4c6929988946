use Rattle.node_compile.proofs.SlotLaws.{nodes_meet_types}
use Rattle.node_compile.proofs.laws.nodes_meet_types.Goals as goal

pub returns : goal.returns
returns c = nodes_meet_types
