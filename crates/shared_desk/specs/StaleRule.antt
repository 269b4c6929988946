-- Which edits are stale, over all changes that lines made: the party of each, and the slots that it touched.
use Rattle.std.specs.Prelude.{◌≡◌, ◌↔◌, ℕ, ◌-◌, ◌<◌, ◌≤◌, Bool, IsTrue, List, [], ◌∷◌, ◌++◌, slice_get, Some, None, if◌then◌else◌, Result, Ok, Err}
use Rattle.fact_paths.specs.declared.slot_path.SlotPath.{SlotPath}
use Rattle.fact_values.specs.declared.slot.Slot.{Slot}
use Rattle.script_lines.specs.declared.command.Command.{Command}
use Rattle.answers.specs.Answered.{Answered}
use Rattle.dict_meaning.specs.Accepted.{IsAccepted}
use Rattle.dictionary.specs.AcceptedParts.{names_of}
use Rattle.dict_meaning.specs.Fits.{AnswersFit}
use Rattle.graph_session.specs.Naming.{slot_of}
use Rattle.graph_session.specs.Refusals.{first_of}
use Rattle.graph_session.specs.Rules.{Rules, tree_of}
use Rattle.graph_session.specs.declared.reply.Reply.{Reply}
use Rattle.graph_session.specs.Step.{is_change}
use Rattle.shared_desk.specs.Desk.{Desk, absent_refusals, desk_begun, desk_refusal, desk_step, edited, is_touched}
use Rattle.shared_desk.specs.Parties.{Line, desk_ended, desk_next}
use Rattle.shared_desk.specs.declared.refusal.DeskRefusal.{DeskRefusal}
use Rattle.shared_desk.specs.declared.refusal.DeskRefusal.TheVariants.{Stale}

-- ---- changes

-- a change: its party, and the slots that it touched
pub record MadeChange : Type 0 where
  pub party : ℕ
  pub touched : Slot → Bool

-- the change of a line that is accepted and makes one
abbrev pub made_by : Rules → Desk → Line → Result (Reply × Desk) DeskRefusal → List MadeChange
made_by r d l (Ok x) = if is_change l.1 then record { party = l.0; touched = is_touched r.accepted d.session_state.timeline.now x.1.session_state.timeline.now } ∷ [] else []
made_by r d l (Err q) = []

-- those of all lines, in order: the first has the number 1
abbrev pub made : Rules → Desk → List Line → List MadeChange
made r d [] = []
made r d (l ∷ ls) = made_by r d l (desk_step r d l.0 l.1) ++ made r (desk_next d (desk_step r d l.0 l.1)) ls

-- ---- the rule

-- the change of this number is another party's, touched the slot, and was made after the party's last look at it, which came behind
-- so many changes
pub record IsAnothers (all : List MadeChange) (p look : ℕ) (s : Slot) (n : ℕ) : Type 0 where
  pub change : MadeChange
  pub number : slice_get all (n - 1) ≡ Some change
  pub other : ¬ (change.party ≡ p)
  pub touched : IsTrue (change.touched s)
  pub later : look < n

-- it is the last such change
pub record IsLastAnothers (all : List MadeChange) (p look : ℕ) (s : Slot) (n : ℕ) : Type 0 where
  pub anothers : IsAnothers all p look s n
  pub last : (k : ℕ) → IsAnothers all p look s k → k ≤ n

-- the command is an edit of this path's slot, which stands; and of the member that it takes out, where it takes one out
pub record IsEditOfStanding (r : Rules) (d : Desk) (c : Command) (path : SlotPath) : Type 0 where
  pub edits : edited c ≡ Some path
  pub there : first_of (absent_refusals r d.session_state.timeline.now c) ≡ None

-- ---- laws

-- After any lines, a command is refused as stale exactly where it is an edit of a slot that is there, and another party's change
-- touched the slot after this party's last look at it; the number is that of the last such change.
abbrev pub StaleIsAnothersChange : Type 0
StaleIsAnothersChange =
    (r : Rules) → IsAccepted (names_of r.checks) r.accepted → (a : Answered) → AnswersFit (tree_of r) a
    → (ls : List Line) (p : ℕ) (c : Command) (n : ℕ)
    → let d = desk_ended r (desk_begun r a) ls in
    (desk_refusal r d p c ≡ Some (Stale n))
    ↔ ((path : SlotPath) × (IsEditOfStanding r d c path × IsLastAnothers (made r (desk_begun r a) ls) p (d.last_seen p (slot_of (tree_of r) path)) (slot_of (tree_of r) path) n))

-- where there is such a change, there is a last one, and the edit is refused
abbrev pub AnothersChangeIsStale : Type 0
AnothersChangeIsStale =
    (r : Rules) → IsAccepted (names_of r.checks) r.accepted → (a : Answered) → AnswersFit (tree_of r) a
    → (ls : List Line) (p : ℕ) (c : Command) (path : SlotPath) (n : ℕ)
    → let d = desk_ended r (desk_begun r a) ls in
    IsEditOfStanding r d c path → IsAnothers (made r (desk_begun r a) ls) p (d.last_seen p (slot_of (tree_of r) path)) (slot_of (tree_of r) path) n
    → (last : ℕ) × (desk_refusal r d p c ≡ Some (Stale last))
