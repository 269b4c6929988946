use Rattle.shared_desk.specs.LastSeen.{key_of}
use Rattle.shared_desk.proofs.LastSeenLaws.{look_put}
use Rattle.shared_desk.proofs.last_seen.LastSeen.put.Goals as goal
use Rattle.shared_desk.proofs.last_seen.LastSeen.put.Goals.{in-Ok, in-Err}

pub returns-clause-put : goal.returns-clause-put
returns-clause-put c = elim c.match-insert.branch [
  | in-Ok w ↦ rw (w.result-is, ← c.self.view_is) (look_put c.self.inside.kept.entries c.insert.new.self.entries (key_of c.args.party c.args.slot) c.args.number w.in-Ok.ensures.updates.0)
  | in-Err w ↦ rw w.result-is tt
]
