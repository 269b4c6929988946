use Rattle.dict_tree.proofs.EnumJsonLaws.{enum_found, enum_again}
use Rattle.dict_tree.proofs.laws.enums_are_spelled.Goals as goal

pub returns-clause-spelled : goal.returns-clause-spelled
returns-clause-spelled c = enum_found

pub returns-clause-read : goal.returns-clause-read
returns-clause-read c = enum_again
