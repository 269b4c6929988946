-- What a line of a script answers, and what it leaves.
use Rattle.std.specs.Prelude.{ℕ, Bool, true, false, List, [], ◌∷◌, ◌++◌, codes, Option, Some, None, Result, Ok, Err, if◌then◌else◌}
use Rattle.fact_paths.specs.declared.slot_path.SlotPath.{SlotPath}
use Rattle.fact_values.specs.declared.slot.Slot.{Slot}
use Rattle.text_checks.specs.Places.{place_of}
use Rattle.script_lines.specs.Joined.{joined}
use Rattle.script_lines.specs.Kinds.{kind_of}
use Rattle.script_lines.specs.Lines.{ScriptLine, whole, long}
use Rattle.script_lines.specs.Parsing.{Heard, nothing, bad_line, command, heard_in}
use Rattle.script_lines.specs.declared.command.Command.{Command}
use Rattle.script_lines.specs.declared.command.Command.TheVariants as commands
use Rattle.script_lines.specs.declared.kind.Kind.{Kind}
use Rattle.script_lines.specs.declared.kind.Kind.TheVariants as kinds
use Rattle.answers.specs.Answered.{Answered}
use Rattle.dictionary.specs.AcceptedParts.{Named}
use Rattle.dict_meaning.specs.Plain.{plain}
use Rattle.graph_session.specs.Refusals.{slot_found}
use Rattle.graph_session.specs.Rules.{Rules, tree_of}
use Rattle.graph_session.specs.SessionView.{SessionState, begun}
use Rattle.graph_session.specs.Step as session
use Rattle.graph_session.specs.Step.{is_change}
use Rattle.graph_session.specs.declared.reply.Refusal.{Refusal}
use Rattle.graph_session.specs.declared.reply.Reply.{Reply}
use Rattle.fact_watch.specs.Refusals.{unwatch_refusal, watch_of, watch_refusal}
use Rattle.fact_watch.specs.Watching.{Watch, without}
use Rattle.fact_watch.specs.declared.commands.WatchRefusal.{WatchRefusal}
use Rattle.session_lines.specs.Firing.{firing_lines}
use Rattle.session_lines.specs.Replies.{bad_line_text, long_line_text, missing_output, refusal_text, reply_text, watch_refusal_text}

-- ---- where a script stands

-- the state of the session, and its watches: the relations by which a slot may be watched, by name and code, and the watches, in
-- the order in which they were put
pub record LineState : Type 0 where
  pub session_state : SessionState
  pub relations : List Named
  pub watched : List Watch

-- and whether the script has been quit
pub record State : Type 0 where
  pub standing : LineState
  pub over : Bool

abbrev pub open_at : LineState → State
open_at s = record { standing = s; over = false }

abbrev pub quit_at : LineState → State
quit_at s = record { standing = s; over = true }

pub record Step : Type 0 where
  -- the lines that are written, each without its newline
  pub lines : List (List ℕ)
  pub state : State

-- their bytes, with the newlines
abbrev pub text_of : Step → List ℕ
text_of made = joined made.lines

-- a line is written, and nothing changes
abbrev pub step_writing : LineState → List ℕ → Step
step_writing s text = record { lines = text ∷ []; state = open_at s }

-- ---- commands of the session

-- the lines of the watches that fire between two states
abbrev pub fired : Rules → LineState → SessionState → List (List ℕ)
fired r s after = firing_lines (tree_of r) s.relations (plain r.accepted s.session_state.timeline.now) (plain r.accepted after.timeline.now) s.watched

-- behind the reply of a change stand the watches that fire
abbrev pub said : Rules → LineState → Command → List ℕ → SessionState → List (List ℕ)
said r s asked text after = if is_change asked then text ∷ fired r s after else text ∷ []

-- a session's reply and the state that it leaves, or its refusal
-- its step reads a value by `value_at`: value_text's law `reads_spelled_values` ties that to what the text spells
abbrev pub step_answered : Rules → LineState → Command → Result (Reply × SessionState) Refusal → Step
step_answered r s asked (Ok answer) = record {
  lines = said r s asked (reply_text r answer.1 answer.0) answer.1;
  state = open_at (record s { session_state = answer.1 });
}
step_answered r s asked (Err refusal) = step_writing s (refusal_text refusal)

abbrev pub step_session_command : Rules → LineState → Command → Step
step_session_command r s asked = step_answered r s asked (session.step r s.session_state asked)

-- ---- commands that the session itself doesn't answer

-- what is missing of a slot, or why the slot isn't there
abbrev pub step_missing : Rules → LineState → SlotPath → Step
step_missing r s path = record { lines = missing_output r s.session_state (slot_found r s.session_state.timeline.now path); state = open_at s }

-- the place of a relation's name
abbrev pub place_in : List Named → List ℕ → Option ℕ
place_in relations name = place_of relations (λ (n : Named). n.0) name

-- these are watched from now on, or the refusal is told
abbrev pub watch_decided : LineState → List Watch → Option WatchRefusal → Step
watch_decided s watched None = record { lines = codes "ok" ∷ []; state = open_at (record s { watched = watched }) }
watch_decided s watched (Some refusal) = step_writing s (watch_refusal_text refusal)

abbrev pub put_watch : LineState → List ℕ → Result Slot Refusal → Step
put_watch s name (Ok slot) =
    let place = place_in s.relations name in
    watch_decided s (s.watched ++ watch_of place slot ∷ []) (watch_refusal place s.watched slot)
put_watch s name (Err refusal) = step_writing s (refusal_text refusal)

abbrev pub cut_watch : LineState → List ℕ → Result Slot Refusal → Step
cut_watch s name (Ok slot) =
    let place = place_in s.relations name in
    watch_decided s (without (watch_of place slot) s.watched) (unwatch_refusal place s.watched slot)
cut_watch s name (Err refusal) = step_writing s (refusal_text refusal)

-- ---- one command

-- the session itself answers it
abbrev pub is_session_kind : Kind → Bool
is_session_kind kinds.Change = true
is_session_kind kinds.Question = true
is_session_kind kinds.Missing = false
is_session_kind kinds.Watch = false
is_session_kind kinds.Quit = false

abbrev pub is_session_command : Command → Bool
is_session_command asked = is_session_kind (kind_of asked)

abbrev pub step_command : Rules → LineState → Command → Step
step_command r s commands.Quit = record { lines = []; state = quit_at s }
step_command r s (commands.Missing path) = step_missing r s path
step_command r s (commands.Watch name path) = put_watch s name (slot_found r s.session_state.timeline.now path)
step_command r s (commands.Unwatch name path) = cut_watch s name (slot_found r s.session_state.timeline.now path)
step_command r s asked = step_session_command r s asked

-- ---- lines in order

abbrev pub step_heard : Rules → LineState → Heard → Step
step_heard r s nothing = record { lines = []; state = open_at s }
step_heard r s bad_line = step_writing s bad_line_text
step_heard r s (command asked) = step_command r s asked

-- `heard_in` reads the line: script_lines' law `a_line_says_one_thing` ties it to what the line spells
abbrev pub step_line : Rules → LineState → ScriptLine → Step
step_line r s (whole line) = step_heard r s (heard_in line)
step_line r s long = step_writing s long_line_text

-- what follows `quit` has no effect
abbrev pub step : Rules → State → ScriptLine → Step
step r state line = if state.over then record { lines = []; state = state } else step_line r state.standing line

-- the lines of the replies to lines in order, and the state behind them
abbrev pub replies : Rules → State → List ScriptLine → List (List ℕ)
replies r state [] = []
replies r state (line ∷ lines) = (step r state line).lines ++ replies r (step r state line).state lines

abbrev pub state_after : Rules → State → List ScriptLine → State
state_after r state [] = state
state_after r state (line ∷ lines) = state_after r (step r state line).state lines

-- ---- the start

-- how a script begins: with which answers, whether changes are numbered and stamps kept, and by which relations slots may be
-- watched
pub record ScriptStart : Type 0 where
  pub answers : Answered
  pub stamps : Bool
  pub relations : List Named

-- no change was made, and nothing is watched
abbrev pub beginning : Rules → ScriptStart → LineState
beginning r start = record { session_state = begun r.accepted start.answers start.stamps; relations = start.relations; watched = [] }

abbrev pub at_start : Rules → ScriptStart → State
at_start r start = open_at (beginning r start)
