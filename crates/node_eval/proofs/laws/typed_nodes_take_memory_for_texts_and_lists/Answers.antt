use Rattle.node_eval.proofs.MemoryLaws.{typed-takes_memory}
use Rattle.node_eval.proofs.laws.typed_nodes_take_memory_for_texts_and_lists.Goals as goal

pub returns : goal.returns
returns c = typed-takes_memory
