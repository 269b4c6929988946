use Rattle.dictionary.specs.AcceptedParts.{accepted}
use Rattle.dict_meaning.specs.Plain.{plain}
use Rattle.fact_watch.specs.Watching.{code_at}
use Rattle.fact_watch.proofs.FiringLaws.{fires_since}
use Rattle.fact_watch.proofs.watches.Watches.fires.Goals as goal

pub returns-clause-since : goal.returns-clause-since
returns-clause-since g c = λ before e.
    let s = c.args.session.now in
    fires_since (code_at (λ r. r.code) c.args.table.now.relations.items) c.args.self.now before (plain (accepted s.dict) s.timeline.now) c.args.n c.fires_as_noted.result c.fires_as_noted.ensures e
