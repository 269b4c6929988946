use Rattle.std.proofs.Common.{rules, not}
use Rattle.std.proofs.lemmas.Fn.{filter_same}
use Rattle.fact_watch.specs.Watching.{watch_same}
use Rattle.fact_watch.proofs.watches.take_out.Goals as goal

pub returns-clause-left : goal.returns-clause-left
returns-clause-left c = filter_same _ (λ q. not (watch_same (c.args.place, c.args.slot) q)) _ (λ x b f' k. search rules) _ _ c.retain.ensures.filtered
