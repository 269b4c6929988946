use Rattle.std.proofs.Common.{◌≡◌, IsTrue, subst}
use Rattle.std.specs.Prelude.{IfOk}
use Rattle.answers.specs.Meaning.{answered}
use Rattle.dictionary.specs.AcceptedParts.{accepted}
use Rattle.dict_meaning.specs.Slots.{stands}
use Rattle.graph_session.specs.Refusals.{slot_found}
use Rattle.graph_session.specs.Rules.{rules}
use Rattle.graph_session.specs.SessionView.{SessionView}
use Rattle.graph_session.proofs.AllowedLaws.{found_stands}
use Rattle.graph_session.proofs.session.Session.slot_of.Goals as goal

pub returns-clause-found : goal.returns-clause-found
returns-clause-found g c = subst (λ (s : SessionView). c.find_slot.result ≡ slot_found (rules s.dict) s.timeline.now c.args.path.now) c.self.view_is c.find_slot.ensures

pub returns-clause-stands : goal.returns-clause-stands
returns-clause-stands g c =
    subst (λ (s : SessionView). IfOk c.find_slot.result (λ slot. IsTrue (stands (accepted s.dict).tree s.timeline.now slot))) c.self.view_is
    (found_stands (rules c.self.inside.dict) (answered c.self.inside.answers) c.args.path.now c.find_slot.result c.self.invariant.0.fit.now c.find_slot.ensures)
