-- What a line of a party answers, and what it leaves.
use Rattle.std.specs.Prelude.{ℕ, Bool, true, false, List, [], ◌∷◌, ◌++◌, codes, Result, Ok, Err, if◌then◌else◌}
use Rattle.script_lines.specs.Kinds.{kind_of}
use Rattle.script_lines.specs.Lines.{ScriptLine, whole, long}
use Rattle.script_lines.specs.declared.command.Command.{Command}
use Rattle.script_lines.specs.declared.command.Command.TheVariants as commands
use Rattle.script_lines.specs.declared.kind.Kind.{Kind}
use Rattle.script_lines.specs.declared.kind.Kind.TheVariants as kinds
use Rattle.answers.specs.Answered.{Answered}
use Rattle.graph_session.specs.Refusals.{slot_found}
use Rattle.graph_session.specs.Rules.{Rules}
use Rattle.graph_session.specs.declared.reply.Reply.{Reply}
use Rattle.shared_desk.specs.Desk.{Desk, desk_begun, desk_step}
use Rattle.shared_desk.specs.declared.refusal.DeskRefusal.{DeskRefusal}
use Rattle.shared_desk.specs.declared.refusal.DeskRefusal.TheVariants as desk
use Rattle.session_lines.specs.Replies.{bad_line_text, long_line_text, missing_output, numbered, refusal_text, reply_text}
use Rattle.session_lines.specs.Marks as marks
use Rattle.session_lines.specs.declared.mark.PartyMark.TheVariants.{Party}
use Rattle.desk_lines.specs.PartyLines.{party_said_in}
use Rattle.desk_lines.specs.declared.party_line.PartyLine.{PartyLine}
use Rattle.desk_lines.specs.declared.party_line.PartyLine.TheVariants.{Silent, NoParty, NoCommand, Asks}

-- ---- where a script stands

-- the desk, and whether the script has been quit
pub record DeskState : Type 0 where
  pub desk : Desk
  pub over : Bool

abbrev pub desk_open : Desk → DeskState
desk_open d = record { desk = d; over = false }

abbrev pub desk_quit : Desk → DeskState
desk_quit d = record { desk = d; over = true }

pub record DeskStep : Type 0 where
  -- the lines that are written, each without its newline
  pub lines : List (List ℕ)
  pub state : DeskState

-- ---- texts

-- the party's mark stands before each line
abbrev pub marked_lines : ℕ → List (List ℕ) → List (List ℕ)
marked_lines p lines = marks.marked_lines (Party p) lines

abbrev pub desk_refusal_text : DeskRefusal → List ℕ
desk_refusal_text (desk.Session refusal) = refusal_text refusal
desk_refusal_text (desk.Stale change) = numbered (codes "refused 20 Stale ") change
desk_refusal_text (desk.NotYours party) = numbered (codes "refused 21 NotYours ") party

-- ---- commands

-- these lines are told to the party, and nothing changes
abbrev pub step_telling : Desk → ℕ → List (List ℕ) → DeskStep
step_telling d p lines = record { lines = marked_lines p lines; state = desk_open d }

-- a desk's reply and the desk after it, or its refusal
abbrev pub step_decided : Rules → Desk → ℕ → Result (Reply × Desk) DeskRefusal → DeskStep
step_decided r d p (Ok answer) = record { lines = marked_lines p (reply_text r answer.1.session_state answer.0 ∷ []); state = desk_open answer.1 }
step_decided r d p (Err refusal) = step_telling d p (desk_refusal_text refusal ∷ [])

-- the desk itself answers it
abbrev pub is_session_kind : Kind → Bool
is_session_kind kinds.Change = true
is_session_kind kinds.Question = true
is_session_kind kinds.Missing = false
is_session_kind kinds.Watch = true
is_session_kind kinds.Quit = false

abbrev pub is_session_command : Command → Bool
is_session_command asked = is_session_kind (kind_of asked)

abbrev pub step_asked : Rules → Desk → ℕ → Command → DeskStep
step_asked r d p commands.Quit = record { lines = []; state = desk_quit d }
step_asked r d p (commands.Missing path) = step_telling d p (missing_output r d.session_state (slot_found r d.session_state.timeline.now path))
step_asked r d p asked = step_decided r d p (desk_step r d p asked)

-- ---- lines in order

abbrev pub step_said : Rules → Desk → PartyLine → DeskStep
step_said r d Silent = record { lines = []; state = desk_open d }
step_said r d NoParty = record { lines = bad_line_text ∷ []; state = desk_open d }
step_said r d (NoCommand p) = step_telling d p (bad_line_text ∷ [])
step_said r d (Asks p asked) = step_asked r d p asked

-- `party_said_in` reads the line: the law `a_line_is_of_one_party` ties it to what the line spells
abbrev pub step_party_line : Rules → Desk → ScriptLine → DeskStep
step_party_line r d (whole line) = step_said r d (party_said_in line)
step_party_line r d long = record { lines = long_line_text ∷ []; state = desk_open d }

-- what follows `quit` has no effect
abbrev pub desk_line_step : Rules → DeskState → ScriptLine → DeskStep
desk_line_step r state line = if state.over then record { lines = []; state = state } else step_party_line r state.desk line

-- the lines of the replies to lines in order, and the state behind them
abbrev pub desk_replies : Rules → DeskState → List ScriptLine → List (List ℕ)
desk_replies r state [] = []
desk_replies r state (line ∷ lines) = (desk_line_step r state line).lines ++ desk_replies r (desk_line_step r state line).state lines

abbrev pub desk_state_after : Rules → DeskState → List ScriptLine → DeskState
desk_state_after r state [] = state
desk_state_after r state (line ∷ lines) = desk_state_after r (desk_line_step r state line).state lines

-- ---- the start

-- nobody has done anything over these answers
abbrev pub desk_at_start : Rules → Answered → DeskState
desk_at_start r a = desk_open (desk_begun r a)
