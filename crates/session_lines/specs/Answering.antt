-- How a line is answered: what was written, and where the session stands behind it.
use Rattle.std.specs.Prelude.{◌≡◌, ℕ, Bool, true, false, List, [], ◌∷◌, Result, Ok, Err}
use Rattle.fg_io.specs.Outside.{Output}
use Rattle.script_lines.specs.Lines.{ScriptLine}
use Rattle.session_lines.specs.declared.progress.Progress.{Progress}
use Rattle.session_lines.specs.declared.progress.Progress.TheVariants.{More, Over, Unwritten, OutOfMemory}
use Rattle.graph_session.specs.Rules.{Rules, rules}
use Rattle.graph_session.specs.Run.{is_memory}
use Rattle.graph_session.specs.SessionView.{SessionView, session_state}
use Rattle.dictionary.specs.AcceptedParts.{Named, accepted}
use Rattle.evaluation.specs.Results.{Results}
use Rattle.dict_meaning.specs.Plain.{plain}
use Rattle.fact_watch.specs.Tables.{named_relations}
use Rattle.fact_watch.specs.Watching.{Watch, Watching}
use Rattle.fact_watch.specs.declared.relation.WatchTable.{WatchTable}
use Rattle.fact_watch.specs.declared.commands.WatchRefusal.{WatchRefusal}
use Rattle.graph_session.specs.declared.reply.Refusal.{Refusal}
use Rattle.graph_session.specs.declared.reply.Reply.{Reply}
use Rattle.session_lines.specs.Firing.{firing_lines}
use Rattle.session_lines.specs.Replies.{is_watch_memory, refusal_text, reply_text, watch_refusal_text}
use Rattle.session_lines.specs.Stepping.{LineState, State, Step, open_at, quit_at, replies, state_after}
use Rattle.session_lines.specs.Writing.{WroteLines, WroteSome}

-- where the session stands, with these relations and watches
abbrev pub line_state_of : SessionView → List Named → Watching → LineState
line_state_of session relations watches = record { session_state = session_state session; relations = relations; watched = watches.watched }

-- with the relations of a table
abbrev pub state_by : {X : Type 0} {F : X → Type 0} {M : _} → SessionView → WatchTable X F M → Watching → LineState
state_by session table watches = line_state_of session (named_relations table) watches

-- the line of a reply, as the session stands
abbrev pub replied : SessionView → Reply → List ℕ
replied session reply = reply_text (rules session.dict) (session_state session) reply

-- and behind it the watches that fire, where what is watched had these results before
abbrev pub replied_and_fired : SessionView → List Named → Results → List Watch → Reply → List (List ℕ)
replied_and_fired session relations before watched reply =
    replied session reply ∷ firing_lines (accepted session.dict).tree relations before (plain (accepted session.dict) session.timeline.now) watched

-- A step was taken: its lines were written whole and the script goes on or is over, or they weren't written whole, or there was no
-- memory for it, and nothing was put.
abbrev pub SteppedAs : Output → Output → Step → LineState → Progress → Type 0
SteppedAs sink sink_now step here_now More = WroteLines sink sink_now step.lines × (step.state ≡ open_at here_now)
SteppedAs sink sink_now step here_now Over = (sink_now ≡ sink) × (step.lines ≡ []) × (step.state ≡ quit_at here_now)
SteppedAs sink sink_now step here_now Unwritten = WroteSome sink sink_now step.lines
SteppedAs sink sink_now step here_now OutOfMemory = sink_now ≡ sink

-- Where there was no memory all stands as before; and behind a text that wasn't written whole stands the state that its step leaves.
abbrev pub KeptAs : State → LineState → LineState → Progress → Type 0
KeptAs state here here_now More = Unit {0}
KeptAs state here here_now Over = Unit {0}
KeptAs state here here_now Unwritten = state ≡ open_at here_now
KeptAs state here here_now OutOfMemory = here_now ≡ here

-- A line, or none, was answered: the reply was written whole and the script goes on or is over, or the reply wasn't
-- written whole, or there was no memory for the command.
abbrev pub AnsweredAs : Rules → Output → Output → LineState → LineState → List ScriptLine → Progress → Type 0
AnsweredAs r sink sink_now here here_now lines More =
    WroteLines sink sink_now (replies r (open_at here) lines) × (state_after r (open_at here) lines ≡ open_at here_now)
AnsweredAs r sink sink_now here here_now lines Over =
    WroteLines sink sink_now (replies r (open_at here) lines) × (state_after r (open_at here) lines ≡ quit_at here_now)
AnsweredAs r sink sink_now here here_now lines Unwritten = WroteSome sink sink_now (replies r (open_at here) lines)
AnsweredAs r sink sink_now here here_now lines OutOfMemory = sink_now ≡ sink

-- the lines of a reply were written whole, or in part after a fault
abbrev pub WrittenAs : Output → Output → List (List ℕ) → Progress → Type 0
WrittenAs sink sink_now lines More = WroteLines sink sink_now lines
WrittenAs sink sink_now lines Over = ⊥
WrittenAs sink sink_now lines Unwritten = WroteSome sink sink_now lines
WrittenAs sink sink_now lines OutOfMemory = ⊥

-- or there was no memory for it
abbrev pub OutputAs : Output → Output → List (List ℕ) → Progress → Type 0
OutputAs sink sink_now lines More = WroteLines sink sink_now lines
OutputAs sink sink_now lines Over = ⊥
OutputAs sink sink_now lines Unwritten = WroteSome sink sink_now lines
OutputAs sink sink_now lines OutOfMemory = sink_now ≡ sink

-- want of memory ends the script, and every other refusal is written
abbrev pub EndsOrWrites : Bool → Output → Output → List (List ℕ) → Progress → Type 0
EndsOrWrites true sink sink_now lines progress = (sink_now ≡ sink) × (progress ≡ OutOfMemory)
EndsOrWrites false sink sink_now lines progress = WrittenAs sink sink_now lines progress

abbrev pub RefusedAs : Output → Output → Refusal → Progress → Type 0
RefusedAs sink sink_now refusal progress = EndsOrWrites (is_memory refusal) sink sink_now (refusal_text refusal ∷ []) progress

abbrev pub WatchRefusedAs : Output → Output → WatchRefusal → Progress → Type 0
WatchRefusedAs sink sink_now refusal progress = EndsOrWrites (is_watch_memory refusal) sink sink_now (watch_refusal_text refusal ∷ []) progress

-- how the script goes on behind a text
abbrev pub progress_of : {T E : Type 0} → Result T E → Progress
progress_of (Ok done) = More
progress_of (Err failed) = Unwritten
