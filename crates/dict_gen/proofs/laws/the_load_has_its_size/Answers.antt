use Rattle.std.proofs.Common.{arith}
use Rattle.dict_gen.proofs.ChainPlaces.{length_chain}
use Rattle.dict_gen.proofs.Pushing.{node_number}
use Rattle.dict_gen.proofs.ScriptLaws.{line_count, script_is_short}
use Rattle.dict_gen.proofs.laws.the_load_has_its_size.Goals as goal

pub returns-clause-facts : goal.returns-clause-facts
returns-clause-facts c = λ n. let count = length_chain n in omega (arith, count)

pub returns-clause-nodes : goal.returns-clause-nodes
returns-clause-nodes c = node_number

pub returns-clause-lines : goal.returns-clause-lines
returns-clause-lines c = line_count

pub returns-clause-bytes : goal.returns-clause-bytes
returns-clause-bytes c = script_is_short
