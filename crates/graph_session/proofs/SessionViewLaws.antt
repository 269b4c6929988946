-- What contracts see of a session after a change, and after one that failed.
use Rattle.std.proofs.Common.{◌≡◌, ℕ, ◌+◌, Bool, IsTrue, if◌then◌else◌, [], ◌∷◌, Some, None}
use Rattle.std.specs.Prelude.{take}
use Rattle.answers.specs.Change.{Change, applied, inverse}
use Rattle.session_undo.specs.UndoState.{UndoState, changed, forgotten}
use Rattle.session_undo.specs.Timeline.{Timeline}
use Rattle.dictionary.specs.AcceptedParts.{AcceptedParts, accepted}
use Rattle.dictionary.specs.Engines.{AreMarkedBy, AreSameMarks, Marks}
use Rattle.graph_session.specs.Counts.{counts_of}
use Rattle.graph_session.specs.SessionView.{SessionView, moved_to}
use Rattle.graph_session.proofs.CountLaws.{marked_offered, same_offered}

-- over an engine that keeps these marks, where it keeps stamps
abbrev pub shown : AcceptedParts → Timeline → ℕ → Bool → Marks → SessionView
shown k t n offered m = record { dict = k; timeline = t; changes = n; counts = if offered then Some (counts_of (accepted k) t.now m) else None }

pub shown_moved : (k : AcceptedParts) (t u : Timeline) (n : ℕ) (offered : Bool) (m m' : Marks) → (IsTrue offered → m.changes ≡ n) → (IsTrue offered → AreMarkedBy (accepted k) t.now u.now m m')
    → shown k u (n + 1) offered m' ≡ moved_to (shown k t n offered m) u
shown_moved k t u n offered m m' e f = λ i. record { dict = k; timeline = u; changes = n + 1; counts = marked_offered (accepted k) t.now u.now n m m' offered e f i }

pub shown_same : (k : AcceptedParts) (t : Timeline) (n : ℕ) (offered : Bool) (m m' : Marks) → (IsTrue offered → AreSameMarks m m') → shown k t n offered m' ≡ shown k t n offered m
shown_same k t n offered m m' f = λ i. record { dict = k; timeline = t; changes = n; counts = same_offered (accepted k) t.now m m' offered f i }

-- the place after a change, by its parts
pub place_changed : (p q : UndoState) (c : Change) → q.back ≡ inverse c p.now ∷ p.back → q.now ≡ applied c p.now → q.ahead ≡ [] → q ≡ changed p c
place_changed p q c b n a = λ i. record { back = b i; now = n i; ahead = a i }

-- and where changes were forgotten
pub place_forgotten : (p q : UndoState) (most : ℕ) → q.back ≡ take most p.back → q.now ≡ p.now → q.ahead ≡ p.ahead → q ≡ forgotten most p
place_forgotten p q most b n a = λ i. record { back = b i; now = n i; ahead = a i }
