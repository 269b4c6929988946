use Rattle.dict_print.proofs.NestingLaws.{printed_nests}
use Rattle.dict_print.proofs.SpellingLaws.{printed_spells}
use Rattle.dict_print.proofs.laws.printed_form_spells.Goals as goal

pub returns-clause-spelled : goal.returns-clause-spelled
returns-clause-spelled c = printed_spells

pub returns-clause-shallow : goal.returns-clause-shallow
returns-clause-shallow c = printed_nests
