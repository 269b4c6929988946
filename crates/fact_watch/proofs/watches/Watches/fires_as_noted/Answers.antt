use Rattle.dictionary.specs.AcceptedParts.{accepted}
use Rattle.dict_meaning.specs.Plain.{plain}
use Rattle.fact_watch.specs.Watching.{code_at}
use Rattle.fact_watch.proofs.FiringLaws.{fires_some}
use Rattle.fact_watch.proofs.watches.Watches.fires_as_noted.Goals as goal

pub returns-in-Some : goal.returns-in-Some
returns-in-Some g c =
    let s = c.args.session.now in
    fires_some (code_at (λ r. r.code) c.args.table.now.relations.items) c.args.self.now (plain (accepted s.dict) s.timeline.now) c.args.n c.in-Some.watch _ _ c.says.result
    c.in-Some.ensures c.note_at.ensures c.result.ensures c.says.ensures
