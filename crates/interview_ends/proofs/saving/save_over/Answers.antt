use Rattle.std.proofs.Common.{ap, inl, inr, refl}
use Rattle.graph_session.specs.SessionView.{SessionView}
use Rattle.interview_ends.proofs.SaveLaws.{nothing}
use Rattle.interview_ends.proofs.saving.save_over.Goals as goal

pub save_session-status-requires-clause-same_checks : goal.save_session-status-requires-clause-same_checks
save_session-status-requires-clause-same_checks g c = rw (ap (λ (s : SessionView). s.dict) c.in-Ok.ensures.session) c.requires.same_checks

pub save_session-status-requires-clause-unchanged : goal.save_session-status-requires-clause-unchanged
save_session-status-requires-clause-unchanged g c = ap (λ (s : SessionView). s.changes) c.in-Ok.ensures.session

pub returns : goal.returns
returns g c = record { saves = nothing _ _ refl; calls = inl (refl, refl) }

pub returns-in-Ok : goal.returns-in-Ok
returns-in-Ok g c = record {
  saves = rw (c.in-Ok.ensures.session, c.in-Ok.ensures.watches) at c.save_session-status.ensures.saves;
  calls = inr (rw (c.in-Ok.ensures.session, c.in-Ok.ensures.watches) at c.save_session-status.ensures.calls);
}
