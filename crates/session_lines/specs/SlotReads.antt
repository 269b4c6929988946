-- What a host is told of the slots that a slot reads.
use Rattle.std.specs.Prelude.{List, [], ◌∷◌, ℕ, map, Result, Ok, Err}
use Rattle.fact_values.specs.declared.slot.Slot.{Slot}
use Rattle.dict_meaning.specs.SlotText.{slot_text}
use Rattle.explain.specs.Reads.{reads}
use Rattle.graph_session.specs.Rules.{Rules, tree_of}
use Rattle.graph_session.specs.SessionView.{SessionState}
use Rattle.graph_session.specs.declared.reply.Refusal.{Refusal}
use Rattle.session_lines.specs.Replies.{refusal_text}

-- their paths
abbrev pub read_lines : Rules → SessionState → Slot → List (List ℕ)
read_lines r c slot = map (slot_text (tree_of r)) (reads r.accepted c.timeline.now slot)

-- or why the slot isn't there
abbrev pub read_answer : Rules → SessionState → Result Slot Refusal → List (List ℕ)
read_answer r c (Ok slot) = read_lines r c slot
read_answer r c (Err refusal) = refusal_text refusal ∷ []
