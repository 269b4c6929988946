-- One step of a session: the first refusal that holds, or what comes of the command.
use Rattle.std.specs.Prelude.{ℕ, Bool, List, [], ◌∷◌, Option, Some, None, is_none, is_some, option_map, if◌then◌else◌, Result}
use Rattle.script_lines.specs.Kinds as kinds
use Rattle.script_lines.specs.Kinds.{kind_of}
use Rattle.script_lines.specs.declared.command.Command.{Command}
use Rattle.script_lines.specs.declared.command.Command.TheVariants as commands
use Rattle.dict_source.specs.Dictionary.{Dictionary as Tree}
use Rattle.answers.specs.Answered.{Answered}
use Rattle.answers.specs.Change.{Change, applied}
use Rattle.session_undo.specs.Timeline.{Timeline, timeline_back, timeline_forth, timeline_change}
use Rattle.graph_session.specs.Changes.{change_of, change_refusals, change_reply}
use Rattle.graph_session.specs.Counts.{stamp_of, touched_of}
use Rattle.graph_session.specs.Naming.{slot_of}
use Rattle.graph_session.specs.Refusals.{decided, first_of, is_empty, slot_refusals, stamp_refusals, when}
use Rattle.graph_session.specs.Rules.{Rules, tree_of}
use Rattle.graph_session.specs.SessionView.{SessionState, moved}
use Rattle.graph_session.specs.declared.reply.Refusal.{Refusal}
use Rattle.graph_session.specs.declared.reply.Refusal.TheVariants.{NothingToUndo, NothingToRedo, NoStamps}
use Rattle.graph_session.specs.declared.reply.Reply.{Reply}
use Rattle.graph_session.specs.declared.reply.Reply.TheVariants as replies

-- the command makes a change where it isn't refused; every other one asks, or ends the script
abbrev pub is_change : Command → Bool
is_change c = kinds.is_change (kind_of c)

-- ---- refusals

-- of each command, in their order
abbrev pub refusals : Rules → SessionState → Command → List (Option Refusal)
refusals r s (commands.Set path text) = change_refusals r s.timeline.now (commands.Set path text)
refusals r s (commands.Clear path) = change_refusals r s.timeline.now (commands.Clear path)
refusals r s (commands.OpenList path) = change_refusals r s.timeline.now (commands.OpenList path)
refusals r s (commands.Add path) = change_refusals r s.timeline.now (commands.Add path)
refusals r s (commands.Remove path member) = change_refusals r s.timeline.now (commands.Remove path member)
refusals r s (commands.Override path text) = change_refusals r s.timeline.now (commands.Override path text)
refusals r s (commands.Release path) = change_refusals r s.timeline.now (commands.Release path)
refusals r s commands.Undo = when (is_empty s.timeline.before) NothingToUndo ∷ []
refusals r s commands.Redo = when (is_empty s.timeline.after) NothingToRedo ∷ []
refusals r s (commands.Get path) = slot_refusals r s.timeline.now path
refusals r s (commands.Final path) = slot_refusals r s.timeline.now path
refusals r s (commands.Stamp path) = stamp_refusals r s.timeline.now s.counts path
refusals r s commands.Touched = when (is_none s.counts) NoStamps ∷ []
refusals r s (commands.Missing path) = slot_refusals r s.timeline.now path
refusals r s (commands.Watch name path) = slot_refusals r s.timeline.now path
refusals r s (commands.Unwatch name path) = slot_refusals r s.timeline.now path
refusals r s commands.Quit = []

-- the first that holds
abbrev pub refusal : Rules → SessionState → Command → Option Refusal
refusal r s c = first_of (refusals r s c)

-- ---- what comes of a command that isn't refused

-- what lies after the place is cut, and the answers that a change gives are appended
abbrev pub with_change : Timeline → Change → Timeline
with_change t c = timeline_change t (applied c t.now)

-- the list of answers and the place in it: none where the command moves neither
abbrev pub timeline_by : Tree → Timeline → Command → Option Timeline
timeline_by d t commands.Undo = Some (timeline_back t)
timeline_by d t commands.Redo = Some (timeline_forth t)
timeline_by d t c = option_map (with_change t) (change_of d c)

abbrev pub moved_by : Rules → SessionState → Option Timeline → SessionState
moved_by r s None = s
moved_by r s (Some t) = moved r.accepted s t

abbrev pub reply : Rules → SessionState → Command → Reply
reply r s (commands.Set path text) = change_reply s.timeline.now.next (commands.Set path text)
reply r s (commands.Clear path) = change_reply s.timeline.now.next (commands.Clear path)
reply r s (commands.OpenList path) = change_reply s.timeline.now.next (commands.OpenList path)
reply r s (commands.Add path) = change_reply s.timeline.now.next (commands.Add path)
reply r s (commands.Remove path member) = change_reply s.timeline.now.next (commands.Remove path member)
reply r s (commands.Override path text) = change_reply s.timeline.now.next (commands.Override path text)
reply r s (commands.Release path) = change_reply s.timeline.now.next (commands.Release path)
reply r s commands.Undo = replies.Done
reply r s commands.Redo = replies.Done
reply r s (commands.Get path) = replies.Answer (slot_of (tree_of r) path)
reply r s (commands.Final path) = replies.FinalAsked (slot_of (tree_of r) path)
reply r s (commands.Stamp path) = replies.Stamp (stamp_of s.counts (slot_of (tree_of r) path))
reply r s commands.Touched = replies.Touched (touched_of s.counts)
reply r s (commands.Missing path) = replies.MissingAsked (slot_of (tree_of r) path)
reply r s (commands.Watch name path) = replies.WatchAsked (slot_of (tree_of r) path)
reply r s (commands.Unwatch name path) = replies.UnwatchAsked (slot_of (tree_of r) path)
reply r s commands.Quit = replies.Quit

-- ---- the step

-- the reply, and the session after it; or the refusal
abbrev pub step : Rules → SessionState → Command → Result (Reply × SessionState) Refusal
step r s c = decided (refusal r s c) (reply r s c, moved_by r s (timeline_by (tree_of r) s.timeline c))

-- ---- how much work it is

-- where a change from answers to answers takes so many steps at most
abbrev pub steps_to : (Answered → Answered → ℕ) → Answered → Option Timeline → ℕ
steps_to most a None = 0
steps_to most a (Some t) = most a t.now

-- a change takes so many, and every other command none, nor does one that is refused
abbrev pub most_steps : (Answered → Answered → ℕ) → Rules → SessionState → Command → ℕ
most_steps most r s c = if is_some (refusal r s c) then 0 else steps_to most s.timeline.now (timeline_by (tree_of r) s.timeline c)
