use Rattle.std.specs.Prelude.{codes}
use Rattle.fact_paths.proofs.CutLaws.{after_from_strip}
use Rattle.script_lines.proofs.parts.behind_sign.Goals as goal

pub returns : goal.returns
returns c = after_from_strip (codes "#") c.args.text.now c.strip_prefix.result c.strip_prefix.ensures.cases
