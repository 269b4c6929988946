use Rattle.dict_meaning.proofs.ExtensionLaws.{test_tells_extends}
use Rattle.dict_meaning.proofs.extension_laws.extensions_are_tested.Goals as goal

pub returns : goal.returns
returns c = test_tells_extends
