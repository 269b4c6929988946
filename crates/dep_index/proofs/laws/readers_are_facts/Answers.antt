use Rattle.dep_index.proofs.ReaderNumbers.{readers_are_facts}
use Rattle.dep_index.proofs.laws.readers_are_facts.Goals as goal

pub returns : goal.returns
returns c = readers_are_facts
