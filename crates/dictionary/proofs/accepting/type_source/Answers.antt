use Rattle.std.proofs.Common.{}
use Rattle.text_checks.specs.Tables.{check_names}
use Rattle.dict_source.specs.Dictionary.{dictionary_view}
use Rattle.dictionary.proofs.FaultLaws.{refused_of_types}
use Rattle.dictionary.proofs.accepting.type_source.Goals as goal

pub returns-in-Ok-clause-typed : goal.returns-in-Ok-clause-typed
returns-in-Ok-clause-typed g c = c.in-Ok.ensures.typed

pub returns-in-Err-clause-refused : goal.returns-in-Err-clause-refused
returns-in-Err-clause-refused g c = refused_of_types (dictionary_view c.args.source.now) (check_names c.args.checks.now) _ _ c.fault_of_types.ensures c.in-Err.ensures.refused
