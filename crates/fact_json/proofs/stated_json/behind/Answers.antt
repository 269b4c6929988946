use Rattle.fact_paths.proofs.CutLaws.{after_from_strip}
use Rattle.fact_json.proofs.stated_json.behind.Goals as goal

pub returns : goal.returns
returns c = after_from_strip c.args.front.now c.args.text.now c.strip_prefix.result c.strip_prefix.ensures.cases
