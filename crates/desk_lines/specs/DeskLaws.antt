-- Laws of the replies of a desk, wherever it came from.
use Rattle.std.specs.Prelude.{◌≡◌, ℕ, List, [], ◌∷◌, ◌++◌, codes}
use Rattle.fact_paths.specs.declared.slot_path.SlotPath.{SlotPath}
use Rattle.value_text.specs.Values.{printed}
use Rattle.dict_meaning.specs.Accepted.{IsAccepted}
use Rattle.dict_meaning.specs.Extension.{IsExtension}
use Rattle.script_lines.specs.declared.command.Command.TheVariants.{Final}
use Rattle.graph_session.specs.Naming.{slot_of}
use Rattle.graph_session.specs.Rules.{Rules, tree_of}
use Rattle.placeholder_laws.specs.Stays.{Stays}
use Rattle.shared_desk.specs.Desk.{Desk}
use Rattle.desk_lines.specs.DeskStepping.{marked_lines, step_asked}

-- the line by which a party is told a value that is final
abbrev pub final_output : ℕ → List ℕ → List (List ℕ)
final_output p text = marked_lines p ((codes "final " ++ text) ∷ [])

-- What a party was told as final holds: the result of the path's slot is complete, with a value of this text, and so it is under
-- every extension of the answers; and there each party is told the same.
pub record DeskHoldsAsFinal (r : Rules) (d : Desk) (path : SlotPath) (text : List ℕ) : Type 0 where
  pub stays : Stays r.accepted d.session_state.timeline.now (slot_of (tree_of r) path)
  pub printed_so : text ≡ printed (tree_of r).enums stays.0
  pub again : (e : Desk) (q : ℕ) → IsExtension (tree_of r) d.session_state.timeline.now e.session_state.timeline.now → (step_asked r e q (Final path)).lines ≡ final_output q text

-- what is told as final to a party of this desk
abbrev pub DeskFinalsHold : Rules → Desk → Type 0
DeskFinalsHold r d = (p : ℕ) (path : SlotPath) (text : List ℕ) → (step_asked r d p (Final path)).lines ≡ final_output p text → DeskHoldsAsFinal r d path text

-- wherever the desk came from, and however it goes on
abbrev pub DeskFinalLinesStay : Type 0
DeskFinalLinesStay = (names : List (List ℕ)) (r : Rules) → IsAccepted names r.accepted → (d : Desk) → DeskFinalsHold r d
