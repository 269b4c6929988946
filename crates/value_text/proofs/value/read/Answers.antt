use Rattle.value_text.proofs.ParsingLaws.{reads_from}
use Rattle.value_text.proofs.value.read.Goals as goal

pub returns-clause-spelled : goal.returns-clause-spelled
returns-clause-spelled c = reads_from c.args.enums.now c.args.want c.args.text.now c.read_value.result c.read_value.ensures.value
