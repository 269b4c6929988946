use Rattle.fact_paths.proofs.CutLaws.{after_from_strip}
use Rattle.saved_text.proofs.reading.behind.Goals as goal

pub returns : goal.returns
returns c = after_from_strip c.args.word.now c.args.text.now c.strip_prefix.result c.strip_prefix.ensures.cases
