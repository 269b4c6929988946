-- Which lines of a text that came from outside are kept over a dictionary, and why the others aren't.
use Rattle.std.specs.Prelude.{◌≡◌, ℕ, suc, Bool, true, false, not, IsTrue, List, [], ◌∷◌, ◌++◌, filter, Option, Some, None, is_none, is_some, option_map, Contains, string_bytes, codes, refl, if◌then◌else◌}
use Rattle.std.specs.List.{AllByRecursion}
use Rattle.fact_paths.specs.declared.slot_path.SlotPath.{SlotPath}
use Rattle.fact_paths.specs.declared.slot_path.SlotPath.TheVariants.{Global}
use Rattle.fact_values.specs.declared.slot.Slot.{Slot}
use Rattle.fact_values.specs.declared.value.Value.{Value}
use Rattle.answers.specs.Answered.{Answered, value_of}
use Rattle.answers.specs.declared.edit.Side.TheVariants.{Answer, Override}
use Rattle.dict_meaning.specs.Accepted.{IsAccepted}
use Rattle.dictionary.specs.AcceptedParts.{names_of}
use Rattle.dict_meaning.specs.Fits.{AnswersFit, is_answered_by}
use Rattle.graph_session.specs.Naming.{fact_of, is_unknown}
use Rattle.graph_session.specs.Refusals.{first_of, limit_refusals, set_refusals, value_refusals, when}
use Rattle.graph_session.specs.Rules.{Rules, tree_of}
use Rattle.graph_session.specs.declared.reply.Refusal.{Refusal}
use Rattle.graph_session.specs.declared.reply.Refusal.TheVariants.{UnknownFact, WrongKind}
use Rattle.saved_text.specs.CarriedText.{CarriedLine, CarriedText, IsCarried, carried, collection, entry, key_text}
use Rattle.save_file.specs.Carrying.{AreOfKept, IsCarry, keeps, kept_collection}
use Rattle.save_file.specs.declared.reason.Dropped.{Dropped}
use Rattle.save_file.specs.declared.reason.Reason.{Reason}
use Rattle.save_file.specs.declared.reason.Reason.TheVariants.{NoCollection, Refused}
use Rattle.save_file.specs.declared.reason.Reason.TheVariants as reasons

-- ---- why a line is dropped

-- the refusals of `set` over the path's fact: the member in the path stands, since its list is in the text
abbrev pub fact_refusals : Rules → ℕ → List ℕ → List (Option Refusal)
fact_refusals r fact text = when (not (is_answered_by (tree_of r) fact)) WrongKind ∷ value_refusals r fact text

abbrev pub answer_refusals : Rules → SlotPath → List ℕ → List (Option Refusal)
answer_refusals r path text = when (is_unknown (tree_of r) path) UnknownFact ∷ fact_refusals r (fact_of (tree_of r) path) text

-- A list is kept where its name is that of a Writable collection, and a value where `set` would take it. An override never is.
abbrev pub reason_of : Rules → CarriedLine → Option Reason
reason_of r (collection name members) = if is_some (kept_collection (tree_of r) name) then None else Some NoCollection
reason_of r (entry Answer path text) = option_map (λ f. Refused f) (first_of (answer_refusals r path text))
reason_of r (entry Override path text) = Some reasons.Override

-- ---- the lines that are dropped

-- the number of a line, from 1, what it names with its kind, and why it is dropped
abbrev pub DroppedLine : Type 0
DroppedLine = ℕ × (List ℕ × Reason)

abbrev pub dropped_where : ℕ → CarriedLine → Option Reason → List DroppedLine
dropped_where n line None = []
dropped_where n line (Some reason) = (n, (key_text line, reason)) ∷ []

-- of lines, the first of which has this number
abbrev pub dropped_from : Rules → ℕ → List CarriedLine → List DroppedLine
dropped_from r n [] = []
dropped_from r n (line ∷ lines) = dropped_where n line (reason_of r line) ++ dropped_from r (suc n) lines

-- the first two lines of the text are kept
abbrev pub all_dropped : Rules → List CarriedLine → List DroppedLine
all_dropped r lines = dropped_from r 3 lines

-- as they are handed out
abbrev pub dropped_line : Dropped → DroppedLine
dropped_line d = (d.number, (string_bytes d.key, d.reason))

-- ---- what resuming says

abbrev pub overrides : CarriedLine → Bool
overrides (collection name members) = false
overrides (entry Answer path text) = false
overrides (entry Override path text) = true

abbrev pub without_overrides : CarriedText → CarriedText
without_overrides c = record { next = c.next; lines = filter (λ line. not (overrides line)) c.lines }

-- the answers are those of the lines that are kept, and of no override
pub record IsResumeOf (r : Rules) (c : CarriedText) (a : Answered) (others : List DroppedLine) : Type 0 where
  pub kept : AreOfKept r (without_overrides c) a
  pub fit : AnswersFit (tree_of r) a
  pub dropped : others ≡ all_dropped r c.lines

-- the bytes are a carried text, which gives these answers
abbrev pub IsResume : Rules → List ℕ → Answered → List DroppedLine → Type 0
IsResume r bytes a others = (c : CarriedText) × IsCarried c × (bytes ≡ carried c) × IsResumeOf r c a others

-- ---- laws

-- no override stands
abbrev pub NoOverrideStands : Type 0
NoOverrideStands = (r : Rules) (bytes : List ℕ) (a : Answered) (others : List DroppedLine) → IsResume r bytes a others → (s : Slot) → value_of Override a s ≡ None

-- each answer that stands is one that a fact may have, and no limit and no check refuses it
abbrev pub LimitsAllowWhatStands : Type 0
LimitsAllowWhatStands =
    (r : Rules) (bytes : List ℕ) (a : Answered) (others : List DroppedLine) → IsResume r bytes a others
    → (s : Slot) (v : Value) → value_of Answer a s ≡ Some v
    → IsTrue (is_answered_by (tree_of r) s.fact) × (first_of (limit_refusals r s.fact (Some v)) ≡ None)

-- a line is dropped where carrying drops it or it is an override, and in no other case
abbrev pub DroppedWhereNotKept : Type 0
DroppedWhereNotKept = (r : Rules) (line : CarriedLine) → is_none (reason_of r line) ≡ (if overrides line then false else keeps r line)

-- the reason of a value is what `set` refuses it with in the resumed session
abbrev pub SetSaysTheReason : Type 0
SetSaysTheReason =
    (r : Rules) → IsAccepted (names_of r.checks) r.accepted → (c : CarriedText) → IsCarried c → (a : Answered) (others : List DroppedLine) → IsResumeOf r c a others
    → (path : SlotPath) (text : List ℕ) → Contains c.lines (entry Answer path text)
    → reason_of r (entry Answer path text) ≡ option_map (λ f. Refused f) (first_of (set_refusals r a path text))

-- a text without overrides gives the answers that it is carried with
abbrev pub CarryingGivesTheSame : Type 0
CarryingGivesTheSame =
    (r : Rules) (c : CarriedText) → IsCarried c → AllByRecursion (λ line. overrides line ≡ false) c.lines
    → (a b : Answered) (dropped : List ℕ) (others : List DroppedLine) → IsCarry r (carried c) a dropped → IsResume r (carried c) b others → a ≡ b

-- worked examples
dropped_from-override : (r : Rules) → dropped_from r 3 (entry Override (Global (codes "s")) (codes "a b") ∷ []) ≡ (3, (codes "override /s", reasons.Override)) ∷ []
dropped_from-override r = refl

dropped_where-refused : dropped_where 4 (entry Answer (Global (codes "n")) (codes "7")) (Some (Refused WrongKind)) ≡ (4, (codes "value /n", Refused WrongKind)) ∷ []
dropped_where-refused = refl
