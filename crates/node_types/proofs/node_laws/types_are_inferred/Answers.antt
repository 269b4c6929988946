use Rattle.node_types.proofs.InferenceLaws.{complete, one_at_most, sound}
use Rattle.node_types.proofs.ReadLaws.{reads_are_by_rule}
use Rattle.node_types.proofs.node_laws.types_are_inferred.Goals as goal

pub returns-clause-sound : goal.returns-clause-sound
returns-clause-sound c = λ ty n b t u h. sound ty n b t u h

pub returns-clause-complete : goal.returns-clause-complete
returns-clause-complete c = λ ty n b t u h. complete ty n b t u h

pub returns-clause-one : goal.returns-clause-one
returns-clause-one c = λ ty b t u v h k. one_at_most ty b t u v h k

pub returns-clause-reads : goal.returns-clause-reads
returns-clause-reads c = reads_are_by_rule
