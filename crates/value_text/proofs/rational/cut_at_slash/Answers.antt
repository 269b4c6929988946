use Rattle.std.proofs.Common.{arith}
use Rattle.fact_paths.proofs.CutLaws.{cut_from_split}
use Rattle.value_text.proofs.rational.cut_at_slash.Goals as goal

pub returns : goal.returns
returns c = cut_from_split 47 c.args.text.now c.split_once.result (omega arith) c.split_once.ensures.cases
