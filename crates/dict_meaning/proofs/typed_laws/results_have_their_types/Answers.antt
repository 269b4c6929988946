use Rattle.dict_meaning.proofs.TypedResultLaws.{typed_results}
use Rattle.dict_meaning.proofs.typed_laws.results_have_their_types.Goals as goal

pub returns : goal.returns
returns c = typed_results
