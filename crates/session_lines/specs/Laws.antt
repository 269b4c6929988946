-- Laws of the replies of a session, wherever it came from.
use Rattle.std.specs.Prelude.{◌≡◌, ℕ, List, [], ◌∷◌, ◌++◌, codes, IsSome, None}
use Rattle.fact_paths.specs.declared.slot_path.SlotPath.{SlotPath}
use Rattle.value_text.specs.Values.{printed}
use Rattle.dict_meaning.specs.Accepted.{IsAccepted}
use Rattle.dict_meaning.specs.Extension.{IsExtension}
use Rattle.script_lines.specs.declared.command.Command.{Command}
use Rattle.script_lines.specs.declared.command.Command.TheVariants.{Final, Undo}
use Rattle.graph_session.specs.Changes.{change_of}
use Rattle.graph_session.specs.Naming.{slot_of}
use Rattle.graph_session.specs.Rules.{Rules, tree_of}
use Rattle.graph_session.specs.Step.{refusal}
use Rattle.placeholder_laws.specs.Stays.{Stays}
use Rattle.session_lines.specs.Stepping.{LineState, fired, step_command}

-- the line of a value that is final
abbrev pub final_line : List ℕ → List ℕ
final_line text = codes "final " ++ text

-- ---- what is printed as final

-- What `final PATH` printed as a value holds: the result of the path's slot is complete, with a value of this text, and so it is
-- under every extension of the answers; and there the command prints the same.
pub record HoldsAsFinal (r : Rules) (s : LineState) (path : SlotPath) (text : List ℕ) : Type 0 where
  pub stays : Stays r.accepted s.session_state.timeline.now (slot_of (tree_of r) path)
  pub printed_so : text ≡ printed (tree_of r).enums stays.0
  pub again : (t : LineState) → IsExtension (tree_of r) s.session_state.timeline.now t.session_state.timeline.now → (step_command r t (Final path)).lines ≡ final_line text ∷ []

-- what is printed as final by a session that stands so
abbrev pub FinalsHold : Rules → LineState → Type 0
FinalsHold r s = (path : SlotPath) (text : List ℕ) → (step_command r s (Final path)).lines ≡ final_line text ∷ [] → HoldsAsFinal r s path text

-- wherever the session came from, and however it goes on
abbrev pub FinalLinesStay : Type 0
FinalLinesStay = (names : List (List ℕ)) (r : Rules) → IsAccepted names r.accepted → (s : LineState) → FinalsHold r s

-- ---- undo

-- Behind a change that was accepted, `undo` is accepted, and leads to the answers before the change: all of them. What is watched
-- is as it was, and the watches that fire are told.
abbrev pub UndoRestores : Type 0
UndoRestores =
    (r : Rules) (s : LineState) (asked : Command) → IsSome (change_of (tree_of r) asked) → refusal r s.session_state asked ≡ None
    → let changed = (step_command r s asked).state.standing in
    let undone = step_command r changed Undo in
    (undone.lines ≡ codes "ok" ∷ fired r changed undone.state.standing.session_state)
    × (undone.state.standing.session_state.timeline.now ≡ s.session_state.timeline.now)
    × (undone.state.standing.watched ≡ s.watched)
