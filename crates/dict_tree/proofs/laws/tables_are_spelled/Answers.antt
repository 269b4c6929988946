use Rattle.dict_tree.proofs.TableJsonLaws.{table_found, table_again}
use Rattle.dict_tree.proofs.laws.tables_are_spelled.Goals as goal

pub returns-clause-spelled : goal.returns-clause-spelled
returns-clause-spelled c = table_found

pub returns-clause-read : goal.returns-clause-read
returns-clause-read c = table_again
