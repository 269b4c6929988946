-- Wherever commands lead, the answers fit the dictionary.
use Rattle.std.proofs.Common.{◌≡◌, List, [], ◌∷◌, Option, Some, None, is_some, refl, sym, ap, ◌∙◌, subst}
use Rattle.common_lemmas.proofs.Options.{mapped}
use Rattle.script_lines.specs.declared.command.Command.{Command}
use Rattle.script_lines.specs.declared.command.Command.TheVariants as commands
use Rattle.answers.specs.Answered.{start}
use Rattle.answers.specs.Change.{applied}
use Rattle.session_undo.specs.Timeline.{Timeline}
use Rattle.session_undo.specs.declared.direction.Direction.TheVariants.{Back, Forth}
use Rattle.dict_meaning.specs.Accepted.{IsAccepted}
use Rattle.dictionary.specs.AcceptedParts.{names_of}
use Rattle.dict_meaning.proofs.FitChangeLaws.{allowed_changes_fit}
use Rattle.dict_meaning.proofs.FitStart.{start_fits}
use Rattle.graph_session.specs.Changes.{change_of}
use Rattle.graph_session.specs.Keeping.{AllFit}
use Rattle.graph_session.specs.Moves.{timeline_stepped}
use Rattle.graph_session.specs.Refusals.{decided}
use Rattle.graph_session.specs.Rules.{Rules, tree_of}
use Rattle.graph_session.specs.Run.{CommandsLeadToFit, ended, next}
use Rattle.graph_session.specs.SessionView.{SessionState, begun}
use Rattle.graph_session.specs.Step.{moved_by, refusal, reply, step, timeline_by, with_change}
use Rattle.graph_session.specs.declared.reply.Refusal.{Refusal}
use Rattle.graph_session.proofs.AllowedLaws.{can_be_made}
use Rattle.graph_session.proofs.SoundLaws.{fit_change, fit_start, fit_stepped}
use Rattle.graph_session.proofs.StepLaws.{refusal_of_change}

module _ (r : Rules) (is : IsAccepted (names_of r.checks) r.accepted) where
  pub timeline_fits : (s : SessionState) (c : Command) (t : Timeline) → AllFit (tree_of r) s.timeline → refusal r s c ≡ None → timeline_by (tree_of r) s.timeline c ≡ Some t → AllFit (tree_of r) t
  timeline_fits s commands.Undo t all h e = let same : timeline_stepped Back s.timeline ≡ t = cc in subst (AllFit (tree_of r)) same (fit_stepped (tree_of r) Back s.timeline all)
  timeline_fits s commands.Redo t all h e = let same : timeline_stepped Forth s.timeline ≡ t = cc in subst (AllFit (tree_of r)) same (fit_stepped (tree_of r) Forth s.timeline all)
  timeline_fits s c t all h e =
      let made = mapped (with_change s.timeline) (change_of (tree_of r) c) t e in
      let can = can_be_made r s.timeline.now all.now c made.0 made.1 (sym (refusal_of_change r s c (ap is_some made.1)) ∙ h) in
      let fit = allowed_changes_fit (names_of r.checks) r.accepted is s.timeline.now made.0 all.now can.0 can.1 in
      subst (AllFit (tree_of r)) (sym made.2) (fit_change (tree_of r) s.timeline (applied made.0 s.timeline.now) all fit)

  pub step_fits : (s : SessionState) (c : Command) → AllFit (tree_of r) s.timeline → AllFit (tree_of r) (next s (step r s c)).timeline
  step_fits s c all = at (refusal r s c) refl
    where
      by : (o : Option Timeline) → refusal r s c ≡ None → timeline_by (tree_of r) s.timeline c ≡ o → AllFit (tree_of r) (moved_by r s o).timeline
      by None h e = all
      by (Some t) h e = timeline_fits s c t all h e

      at : (o : Option Refusal) → refusal r s c ≡ o → AllFit (tree_of r) (next s (decided o (reply r s c, moved_by r s (timeline_by (tree_of r) s.timeline c)))).timeline
      at None h = by (timeline_by (tree_of r) s.timeline c) h refl
      at (Some q) h = all

  run_fits : (s : SessionState) (cs : List Command) → AllFit (tree_of r) s.timeline → AllFit (tree_of r) (ended r s cs).timeline
  run_fits s [] all = all
  run_fits s (c ∷ cs) all = run_fits (next s (step r s c)) cs (step_fits s c all)

pub commands_lead_to_fit : CommandsLeadToFit
commands_lead_to_fit r is offered cs =
    let fit = (run_fits r is (begun r.accepted start offered) cs (fit_start (tree_of r) start (start_fits (tree_of r)))).now in
    (fit, record { before = fit; after = fit; extends = record { overrides = λ s. refl; values = λ s v e. e; lists = λ c ms e. e } })
