-- Wherever the lines of a script lead, the answers fit the dictionary.
use Rattle.std.proofs.Common.{ℕ, Bool, true, false, List, [], ◌∷◌, ◌++◌, Option, Some, None, Result, Ok, Err}
use Rattle.std.specs.Prelude.{if◌then◌else◌}
use Rattle.fact_values.specs.declared.slot.Slot.{Slot}
use Rattle.fact_watch.specs.Refusals.{unwatch_refusal, watch_of, watch_refusal}
use Rattle.fact_watch.specs.Watching.{Watch, without}
use Rattle.fact_watch.specs.declared.commands.WatchRefusal.{WatchRefusal}
use Rattle.script_lines.specs.Lines.{ScriptLine, whole, long}
use Rattle.script_lines.specs.Parsing.{Heard, nothing, bad_line, command, heard_in}
use Rattle.script_lines.specs.declared.command.Command.{Command}
use Rattle.script_lines.specs.declared.command.Command.TheVariants as commands
use Rattle.dict_meaning.specs.Accepted.{IsAccepted}
use Rattle.dictionary.specs.AcceptedParts.{names_of}
use Rattle.dict_meaning.specs.Fits.{AnswersFit}
use Rattle.graph_session.specs.Keeping.{AllFit}
use Rattle.graph_session.specs.Refusals.{slot_found}
use Rattle.graph_session.specs.Rules.{Rules, tree_of}
use Rattle.graph_session.specs.Run.{next}
use Rattle.graph_session.specs.SessionView.{SessionState}
use Rattle.graph_session.specs.Step as session
use Rattle.graph_session.specs.declared.reply.Refusal.{Refusal}
use Rattle.graph_session.specs.declared.reply.Reply.{Reply}
use Rattle.graph_session.proofs.FitLaws.{step_fits}
use Rattle.graph_session.proofs.SoundLaws.{fit_start}
use Rattle.script_runs.specs.Meanings.{of_session}
use Rattle.session_lines.specs.Stepping.{LineState, ScriptStart, State, at_start, cut_watch, place_in, put_watch, state_after, step, step_answered, step_command, step_heard, step_line, watch_decided}

module _ (r : Rules) where
  -- all answers of the session fit, those that `undo` and `redo` lead to as well
  abbrev Fit : State → Type 0
  Fit state = AllFit (tree_of r) state.standing.session_state.timeline

  abbrev StandsFit : LineState → Type 0
  StandsFit s = AllFit (tree_of r) s.session_state.timeline

  -- ---- watches change no answer

  decided_fits : (s : LineState) (watched : List Watch) (o : Option WatchRefusal) → StandsFit s → Fit (watch_decided s watched o).state
  decided_fits s watched None all = all
  decided_fits s watched (Some refusal) all = all

  put_fits : (s : LineState) (name : List ℕ) (found : Result Slot Refusal) → StandsFit s → Fit (put_watch s name found).state
  put_fits s name (Ok slot) all = decided_fits s (s.watched ++ watch_of (place_in s.relations name) slot ∷ []) (watch_refusal (place_in s.relations name) s.watched slot) all
  put_fits s name (Err refusal) all = all

  cut_fits : (s : LineState) (name : List ℕ) (found : Result Slot Refusal) → StandsFit s → Fit (cut_watch s name found).state
  cut_fits s name (Ok slot) all = decided_fits s (without (watch_of (place_in s.relations name) slot) s.watched) (unwatch_refusal (place_in s.relations name) s.watched slot) all
  cut_fits s name (Err refusal) all = all

  -- ---- a line

  answered_fits : (s : LineState) (c : Command) (found : Result (Reply × SessionState) Refusal) → AllFit (tree_of r) (next s.session_state found).timeline → Fit (step_answered r s c found).state
  answered_fits s c (Ok answer) all = all
  answered_fits s c (Err refusal) all = all

  module _ (is : IsAccepted (names_of r.checks) r.accepted) where
    command_fits : (s : LineState) (c : Command) → StandsFit s → Fit (step_command r s c).state
    command_fits s commands.Quit all = all
    command_fits s (commands.Missing path) all = all
    command_fits s (commands.Watch name path) all = put_fits s name (slot_found r s.session_state.timeline.now path) all
    command_fits s (commands.Unwatch name path) all = cut_fits s name (slot_found r s.session_state.timeline.now path) all
    command_fits s c all = answered_fits s c (session.step r s.session_state c) (step_fits r is s.session_state c all)

    heard_fits : (s : LineState) (heard : Heard) → StandsFit s → Fit (step_heard r s heard).state
    heard_fits s nothing all = all
    heard_fits s bad_line all = all
    heard_fits s (command asked) all = command_fits s asked all

    line_fits : (s : LineState) (line : ScriptLine) → StandsFit s → Fit (step_line r s line).state
    line_fits s (whole line) all = heard_fits s (heard_in line) all
    line_fits s long all = all

    state_fits : (state : State) (line : ScriptLine) → Fit state → Fit (step r state line).state
    state_fits state line all = at state.over
      where
        at : (over : Bool) → Fit (if over then record { lines = []; state = state } else step_line r state.standing line).state
        at true = all
        at false = line_fits state.standing line all

    -- ---- lines in order

    lines_fit : (state : State) (lines : List ScriptLine) → Fit state → Fit (state_after r state lines)
    lines_fit state [] all = all
    lines_fit state (line ∷ lines) all = lines_fit (step r state line).state lines (state_fits state line all)

    pub lines_lead_to_fit : (start : ScriptStart) → AnswersFit (tree_of r) start.answers → (lines : List ScriptLine) → AnswersFit (tree_of r) ((of_session r (at_start r start)).answers lines)
    lines_lead_to_fit start fit lines = (lines_fit (at_start r start) lines (fit_start (tree_of r) start.answers fit)).now
