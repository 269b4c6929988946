use Rattle.fact_watch.proofs.TableLaws.{part_past, part_there}
use Rattle.fact_watch.proofs.relation.WatchTable.name.Goals as goal

pub returns-in-Some : goal.returns-in-Some
returns-in-Some g c = part_there c.args.self.now.relations.items c.deref.result.now (λ r. r.name) c.args.place c.in-Some.relation.now c.deref.ensures.value c.in-Some.ensures.lookup.0 c.in-Some.ensures.lookup.1

pub returns-in-None : goal.returns-in-None
returns-in-None g c = part_past c.args.self.now.relations.items c.deref.result.now (λ r. r.name) c.args.place c.deref.ensures.value c.in-None.ensures.lookup.3
