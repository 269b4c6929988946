-- The answers at a desk fit the dictionary.
use Rattle.std.proofs.Common.{◌≡◌, Option, Some, None, refl}
use Rattle.script_lines.specs.declared.command.Command.{Command}
use Rattle.session_undo.specs.Timeline.{Timeline}
use Rattle.dict_meaning.specs.Accepted.{IsAccepted}
use Rattle.dictionary.specs.AcceptedParts.{names_of}
use Rattle.graph_session.specs.Keeping.{AllFit}
use Rattle.graph_session.specs.Rules.{Rules, tree_of}
use Rattle.graph_session.specs.SessionView.{SessionState}
use Rattle.graph_session.specs.Step.{moved_by, refusal, timeline_by}
use Rattle.graph_session.proofs.FitLaws.{timeline_fits}
use Rattle.shared_desk.specs.Desk.{session_state_after}

module _ (r : Rules) (is : IsAccepted (names_of r.checks) r.accepted) where
  -- after an accepted command too
  pub session_state_fits : (s : SessionState) (c : Command) → AllFit (tree_of r) s.timeline → refusal r s c ≡ None → AllFit (tree_of r) (session_state_after r s c).timeline
  session_state_fits s c all h = by (timeline_by (tree_of r) s.timeline c) refl
    where
      by : (o : Option Timeline) → timeline_by (tree_of r) s.timeline c ≡ o → AllFit (tree_of r) (moved_by r s o).timeline
      by None e = all
      by (Some t) e = timeline_fits r is s c t all h e
