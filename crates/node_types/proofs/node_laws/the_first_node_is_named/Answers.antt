use Rattle.node_types.proofs.FaultLaws.{first_fault}
use Rattle.node_types.proofs.node_laws.the_first_node_is_named.Goals as goal

pub returns : goal.returns
returns c = λ ty n b t m h. first_fault ty n b t m h
