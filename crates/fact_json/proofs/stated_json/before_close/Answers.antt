use Rattle.fact_json.proofs.StatedParsingLaws.{before_close_from_strip}
use Rattle.fact_json.proofs.stated_json.before_close.Goals as goal

pub returns : goal.returns
returns c = before_close_from_strip c.args.text.now c.strip_suffix.result c.strip_suffix.ensures.cases
