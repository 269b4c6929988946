-- How a line of a party is answered: what was written, and what stands behind it.
use Rattle.std.specs.Prelude.{◌≡◌, ℕ, Bool, true, false, List, [], ◌∷◌}
use Rattle.fg_io.specs.Outside.{Output}
use Rattle.script_lines.specs.Lines.{ScriptLine}
use Rattle.graph_session.specs.Rules.{Rules}
use Rattle.session_lines.specs.Answering.{EndsOrWrites}
use Rattle.session_lines.specs.Writing.{WroteLines, WroteSome}
use Rattle.session_lines.specs.declared.progress.Progress.{Progress}
use Rattle.session_lines.specs.declared.progress.Progress.TheVariants.{More, Over, Unwritten, OutOfMemory}
use Rattle.shared_desk.specs.Desk.{Desk}
use Rattle.shared_desk.specs.DeskView.{DeskView, StandsFor}
use Rattle.shared_desk.specs.Refusals.{wants_memory}
use Rattle.shared_desk.specs.declared.refusal.DeskRefusal.{DeskRefusal}
use Rattle.desk_lines.specs.DeskStepping.{DeskState, desk_open, desk_refusal_text, desk_replies, desk_state_after, marked_lines}

-- what is kept stands for the desk of this state, in which the script goes on or is over
abbrev pub StandsAt : DeskView → DeskState → Bool → Type 0
StandsAt v state over = StandsFor v state.desk × (state.over ≡ over)

-- Lines were told and a state left: the lines were written whole, and the script goes on or is over; or they were written in part,
-- after a fault, and the state is left all the same; or there was no memory for them, and then nothing was put, and what is kept is as
-- before.
abbrev pub DeskOutput : Output → Output → DeskView → DeskView → List (List ℕ) → DeskState → Progress → Type 0
DeskOutput sink sink_now v v_now lines state More = WroteLines sink sink_now lines × StandsAt v_now state false
DeskOutput sink sink_now v v_now lines state Over = WroteLines sink sink_now lines × StandsAt v_now state true
DeskOutput sink sink_now v v_now lines state Unwritten = WroteSome sink sink_now lines × StandsAt v_now state false
DeskOutput sink sink_now v v_now lines state OutOfMemory = (sink_now ≡ sink) × (v_now ≡ v)

-- a line, or none, was answered
abbrev pub DeskAnsweredAs : Rules → Output → Output → DeskView → DeskView → Desk → List ScriptLine → Progress → Type 0
DeskAnsweredAs r sink sink_now v v_now here lines progress =
    DeskOutput sink sink_now v v_now (desk_replies r (desk_open here) lines) (desk_state_after r (desk_open here) lines) progress

-- want of memory ends the script, and every other refusal is written
abbrev pub DeskRefusedAs : Output → Output → ℕ → DeskRefusal → Progress → Type 0
DeskRefusedAs sink sink_now p refusal progress =
    EndsOrWrites (wants_memory refusal) sink sink_now (marked_lines p (desk_refusal_text refusal ∷ [])) progress
