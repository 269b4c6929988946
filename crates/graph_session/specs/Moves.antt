-- Steps forth and back along changes, by one definition.
use Rattle.std.specs.Prelude.{Bool, List}
use Rattle.script_lines.specs.declared.command.Command.{Command}
use Rattle.script_lines.specs.declared.command.Command.TheVariants.{Undo, Redo}
use Rattle.answers.specs.Change.{Change}
use Rattle.answers.specs.declared.parts.Parts.{Parts}
use Rattle.session_undo.specs.History.{CanBack, CanForth}
use Rattle.session_undo.specs.declared.direction.Direction.{Direction}
use Rattle.session_undo.specs.declared.direction.Direction.TheVariants.{Back, Forth}
use Rattle.session_undo.specs.UndoState.{UndoState, moved_back, moved_forth}
use Rattle.session_undo.specs.Timeline.{Timeline, timeline_back, timeline_forth}
use Rattle.session_undo.specs.declared.history.History.{History}
use Rattle.graph_session.specs.Refusals.{is_empty}
use Rattle.graph_session.specs.declared.reply.Refusal.{Refusal}
use Rattle.graph_session.specs.declared.reply.Refusal.TheVariants.{NothingToUndo, NothingToRedo}

abbrev pub stepped : Direction → UndoState → UndoState
stepped Forth p = moved_forth p
stepped Back p = moved_back p

abbrev pub timeline_stepped : Direction → Timeline → Timeline
timeline_stepped Forth t = timeline_forth t
timeline_stepped Back t = timeline_back t

-- the changes along which a step goes
abbrev pub changes_along : Direction → UndoState → List Change
changes_along Forth p = p.ahead
changes_along Back p = p.back

-- there are no answers to step to
abbrev pub is_end : Direction → Timeline → Bool
is_end Forth t = is_empty t.after
is_end Back t = is_empty t.before

abbrev pub end_refusal : Direction → Refusal
end_refusal Forth = NothingToRedo
end_refusal Back = NothingToUndo

abbrev pub step_command : Direction → Command
step_command Forth = Redo
step_command Back = Undo

-- the next step needs no memory
abbrev pub CanStep : Direction → History → Parts → Type 0
CanStep Forth h a = CanForth h a
CanStep Back h a = CanBack h a
