use Rattle.std.proofs.Common.{◌≡◌}
use Rattle.fact_watch.specs.Says.{watch_says}
use Rattle.fact_watch.proofs.TableLaws.{holds_there}
use Rattle.fact_watch.proofs.relation.WatchTable.run.Goals as goal

pub returns : goal.returns
returns g c = holds_there c.args.self.now.relations.items (λ r. c.run.result ≡ watch_says r.code c.args.old.now c.args.new.now) c.args.place c.index.result.now c.requires c.index.ensures c.run.ensures
