-- What the commands of a session take and leave, over an engine that counts.
use Rattle.std.specs.Prelude.{◌≡◌, ℕ, ◌+◌, false, IsTrue, Some, Ok, Err}
use Rattle.fact_values.specs.declared.slot.Slot.{Slot}
use Rattle.script_lines.specs.declared.command.Command.{Command}
use Rattle.answers.specs.Answered.{Answered}
use Rattle.dict_meaning.specs.Accepted.{IsAccepted}
use Rattle.dictionary.specs.AcceptedParts.{names_of}
use Rattle.dict_meaning.specs.Fits.{AnswersFit}
use Rattle.dict_meaning.specs.Plain.{plain}
use Rattle.dict_meaning.specs.Slots.{stands}
use Rattle.dict_meaning.specs.Touched.{touches}
use Rattle.dict_meaning.specs.Weights.{touched_weight}
use Rattle.graph_session.specs.Counts.{Counts, stamp_of}
use Rattle.graph_session.specs.Rules.{Rules, tree_of}
use Rattle.graph_session.specs.SessionView.{SessionState}
use Rattle.graph_session.specs.Step.{is_change, most_steps, step}
use Rattle.graph_session.specs.declared.reply.Refusal.{Refusal}
use Rattle.graph_session.specs.declared.reply.Reply.{Reply}

-- ---- laws of the steps that a command may take

-- a change takes what the slots weigh that it touches, from the answers before to those that it leaves
abbrev pub ChangesTakeTouched : Type 0
ChangesTakeTouched =
    (r : Rules) (s t : SessionState) (c : Command) (said : Reply) → IsTrue (is_change c) → step r s c ≡ Ok (said, t)
    → most_steps (touched_weight r.accepted) r s c ≡ touched_weight r.accepted s.timeline.now t.timeline.now

-- a command that is refused takes none, whatever a change would take
abbrev pub RefusedTakeNone : Type 0
RefusedTakeNone = (most : Answered → Answered → ℕ) (r : Rules) (s : SessionState) (c : Command) (why : Refusal) → step r s c ≡ Err why → most_steps most r s c ≡ 0

-- nor does one that makes no change, and it leaves all as it was
abbrev pub QuestionsTakeNone : Type 0
QuestionsTakeNone = (most : Answered → Answered → ℕ) (r : Rules) (s : SessionState) (c : Command) → is_change c ≡ false → most_steps most r s c ≡ 0

abbrev pub QuestionsChangeNone : Type 0
QuestionsChangeNone = (r : Rules) (s t : SessionState) (c : Command) (said : Reply) → is_change c ≡ false → step r s c ≡ Ok (said, t) → t ≡ s

-- ---- laws of what a command leaves

-- where the answers before and after it fit, a slot that stands after it and isn't touched keeps its result and its stamp
abbrev pub UntouchedKeepAll : Type 0
UntouchedKeepAll =
    (r : Rules) → IsAccepted (names_of r.checks) r.accepted → (s t : SessionState) (c : Command) (said : Reply)
    → AnswersFit (tree_of r) s.timeline.now → AnswersFit (tree_of r) t.timeline.now → step r s c ≡ Ok (said, t)
    → (x : Slot) → IsTrue (stands (tree_of r) t.timeline.now x) → touches r.accepted s.timeline.now t.timeline.now x ≡ false
    → (plain r.accepted s.timeline.now x ≡ plain r.accepted t.timeline.now x) × (stamp_of s.counts x ≡ stamp_of t.counts x)

-- a slot that a change touches has the number of the change, where stamps are kept
abbrev pub TouchedHaveNumber : Type 0
TouchedHaveNumber =
    (r : Rules) (s t : SessionState) (c : Command) (said : Reply) (counts : Counts)
    → IsTrue (is_change c) → step r s c ≡ Ok (said, t) → s.counts ≡ Some counts
    → (x : Slot) → IsTrue (stands (tree_of r) t.timeline.now x) → IsTrue (touches r.accepted s.timeline.now t.timeline.now x)
    → (stamp_of t.counts x ≡ s.changes + 1) × (t.changes ≡ s.changes + 1)
