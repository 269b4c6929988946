use Rattle.dict_source.specs.Dictionary.{dictionary_view}
use Rattle.dictionary.proofs.KeptLaws.{err_refused}
use Rattle.dictionary.proofs.accepting.accept.Goals as goal

pub returns-in-Ok-clause-refused : goal.returns-in-Ok-clause-refused
returns-in-Ok-clause-refused g c = err_refused c.args.bytes.now _ (dictionary_view c.in-Ok.source) c.of_source.result c.in-Ok.ensures c.of_source.ensures.refused
