-- The desk after an accepted line, by whether it is a change.
use Rattle.std.proofs.Common.{◌≡◌, ℕ, Bool, true, false, if◌then◌else◌, [], ◌∷◌, ◌++◌}
use Rattle.script_lines.specs.declared.command.Command.{Command}
use Rattle.session_undo.specs.Timeline.{Timeline}
use Rattle.graph_session.specs.Rules.{Rules, tree_of}
use Rattle.graph_session.specs.SessionView.{SessionState, moved}
use Rattle.graph_session.specs.Step.{is_change}
use Rattle.shared_desk.specs.Desk.{Desk, desk_after, entries_after, is_shown, is_touched, looked, place_of, shown}
use Rattle.shared_desk.proofs.StepLaws.{change_leads, question_leads}

module _ (r : Rules) (d : Desk) (p : ℕ) (c : Command) where
  -- after a change or none, to this state
  abbrev pub after_by : Bool → SessionState → Desk
  after_by b t = record {
    session_state = t;
    changers = if b then d.changers ++ p ∷ [] else d.changers;
    entries = entries_after d.entries (place_of d.session_state) p c;
    last_seen = looked d.last_seen p (λ s. if b then is_touched r.accepted d.session_state.timeline.now t.timeline.now s else is_shown (tree_of r) (shown c) s) t.changes;
  }

  pub after_change : is_change c ≡ true → (to : Timeline) × (desk_after r d p c ≡ after_by true (moved r.accepted d.session_state to))
  after_change e = let to = change_leads r d.session_state c e in (to.0, λ i. after_by (e i) (to.1 i))

  pub after_question : is_change c ≡ false → desk_after r d p c ≡ after_by false d.session_state
  after_question e = λ i. after_by (e i) (question_leads r d.session_state c e i)
