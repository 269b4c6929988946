-- The change from answers to answers: how it spreads, and what it is once all that it touches is done.
use Rattle.std.specs.Prelude.{◌≡◌, ℕ, Bool, false, not, ◌&&◌, ◌||◌, IsTrue, if◌then◌else◌, List, [], length, sum_by, None}
use Rattle.fact_values.specs.declared.slot.Slot.{Slot}
use Rattle.answers.specs.Answered.{Answered}
use Rattle.answers.specs.Change.{Change, applied}
use Rattle.dict_meaning.specs.Accepted.{Accepted, IsAccepted}
use Rattle.dict_meaning.specs.Extension.{extends}
use Rattle.dict_meaning.specs.Feeds.{feeds}
use Rattle.dict_meaning.specs.Final.{is_final}
use Rattle.dict_meaning.specs.Fits.{AnswersFit}
use Rattle.dict_meaning.specs.Plain.{plain, rank}
use Rattle.evaluation.specs.Results.{Results}
use Rattle.dict_meaning.specs.Slots.{stands, standing}
use Rattle.dict_meaning.specs.Touched.{has_moved, same_entry, stamped, touched, touched_count, touches}
use Rattle.dict_meaning.specs.Undone.{is_extended, is_touched_first, IsUndone}
use Rattle.recalc.specs.Spread.{Spread, is_in, is_touched, IsSpread, NoTwice}
use Rattle.recalc.specs.Marking.{IsMarked}
use Rattle.recalc.specs.Laws.{touched_of}
use Rattle.recalc.specs.Transitions.{IsTransition}

-- the change from a to b: a slot that is final in a is fed by none, where b extends a
abbrev pub between : Accepted → Answered → Answered → Spread
between d a b = record {
  stands = stands d.tree b;
  standing = standing d.tree b;
  first = λ s. not (stands d.tree a s) || not (same_entry a b s);
  feeds = λ t s. feeds d.tree t s && not (extends d.tree a b && is_final d a s);
  moved = has_moved d a b;
  rank = λ s. rank d s.fact;
}

-- the results before it, of the slots that stand after it
abbrev pub results_before : Accepted → Answered → Answered → Results
results_before d a b s = if stands d.tree b s then plain d a s else None

-- both fit an accepted dictionary
pub record AreBetween (names : List (List ℕ)) (d : Accepted) (a b : Answered) : Type 0 where
  pub accepted : IsAccepted names d
  pub before : AnswersFit d.tree a
  pub after : AnswersFit d.tree b

-- ---- laws

-- it spreads as a loop has to know
abbrev pub ChangesSpread : Type 0
ChangesSpread = (names : List (List ℕ)) (d : Accepted) (a b : Answered) → AreBetween names d a b → IsSpread (between d a b)

-- it touches what is touched
abbrev pub SpreadTouches : Type 0
SpreadTouches = (d : Accepted) (a b : Answered) (s : Slot) → is_touched (between d a b) s ≡ touches d a b s

abbrev pub StandingOnce : Type 0
StandingOnce = (d : Accepted) (b : Answered) → AnswersFit d.tree b → NoTwice (standing d.tree b)

-- a change that can be undone leads to the answers now from the results before
abbrev pub UndonePasses : Type 0
UndonePasses =
    (names : List (List ℕ)) (d : Accepted) → IsAccepted names d → (undo : Change) (now : Answered) → IsUndone d undo now
    → (old : Results) → ((s : Slot) → old s ≡ results_before d (applied undo now) now s) → IsTransition d now (is_extended undo now) old (between d (applied undo now) now)

-- it starts where those wait that the edit touches by itself
abbrev pub EditMarks : Type 0
EditMarks =
    (names : List (List ℕ)) (d : Accepted) → IsAccepted names d → (undo : Change) (now : Answered) → IsUndone d undo now
    → (dirty : Slot → Bool) → ((s : Slot) → dirty s ≡ (stands d.tree now s && is_touched_first undo now s))
    → IsMarked (between d (applied undo now) now) [] dirty

-- what a loop leaves of a change once nothing waits
pub record IsAllDone (d : Accepted) (a b : Answered) (done : List Slot) : Type 0 where
  -- exactly the touched slots are done
  pub slots : (s : Slot) → is_in done s ≡ (stands d.tree b s && touches d a b s)
  pub count : length done ≡ touched_count d a b
  pub stamps : (k : ℕ) (stamps : Slot → ℕ) (s : Slot) → IsTrue (stands d.tree b s) → (if is_in done s then k else stamps s) ≡ stamped d a b k stamps s

abbrev pub AllIsDone : Type 0
AllIsDone =
    (names : List (List ℕ)) (d : Accepted) (a b : Answered) → AreBetween names d a b
    → (done : List Slot) (dirty : Slot → Bool) → IsMarked (between d a b) done dirty → ((s : Slot) → dirty s ≡ false) → IsAllDone d a b done

-- what it touches weighs what the touched slots weigh, by any measure of a slot
abbrev pub TouchedWeigh : Type 0
TouchedWeigh = (d : Accepted) (a b : Answered) (weight : Slot → ℕ) → sum_by weight (touched_of (between d a b)) ≡ sum_by weight (touched d a b)
