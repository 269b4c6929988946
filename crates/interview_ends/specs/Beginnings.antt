-- The answers at the start of a run: what they are judged by, and which they are.
use Rattle.std.specs.Prelude.{◌≡◌, ◌⊎◌, ℕ, ◌<◌, ◌≤◌, List, [], length}
use Rattle.fg_io.specs.Outside.{MayHold, Contents, holds}
use Rattle.answers.specs.Answered.{Answered, start}
use Rattle.dict_meaning.specs.Fits.{AnswersFit}
use Rattle.graph_session.specs.Rules.{Rules, tree_of}
use Rattle.saved_text.specs.CarriedText.{CarriedText, IsCarried, IsCarriedText, carried}
use Rattle.save_file.specs.Carrying.{AreOfKept}
use Rattle.save_file.specs.Dropped.{dropped_keys}
use Rattle.saved_text.specs.Refused.{IsRefusedAt}
use Rattle.save_file.specs.Loading.{IsSavedText}
use Rattle.saved_text.specs.SavedText.{saved}
use Rattle.interview_ends.specs.Origins.{Beginning, by_carry, by_load, unanswered}

-- ---- what they are judged by

-- nothing, or the bytes of a saved text that is loaded, or that is carried
pub data Basis : Type 0 where
  no_text : Basis
  to_load : List ℕ → Basis
  to_carry : List ℕ → Basis

-- what may come from there: of a saved text what may be its contents
abbrev pub MayBring : (List ℕ → Contents) → Beginning → Basis → Type 0
MayBring contents unanswered no_text = Unit {0}
MayBring contents (by_load name) (to_load bytes) = MayHold (contents name) bytes
MayBring contents (by_carry name) (to_carry bytes) = MayHold (contents name) bytes
MayBring contents beginning basis = ⊥

-- what comes from there, where it is known
abbrev pub Brings : (List ℕ → Contents) → Beginning → Basis → Type 0
Brings contents unanswered no_text = Unit {0}
Brings contents (by_load name) (to_load bytes) = contents name ≡ holds bytes
Brings contents (by_carry name) (to_carry bytes) = contents name ≡ holds bytes
Brings contents beginning basis = ⊥

-- ---- what a script begins with

abbrev pub saved_limit : ℕ
saved_limit = 67108864

-- the answers, and the lines that are written before the replies
pub record Start : Type 0 where
  pub answers : Answered
  pub front : List (List ℕ)

-- no answers, and nothing is written
abbrev pub start_of_none : Start
start_of_none = record { answers = start; front = [] }

-- the answers fit the dictionary, and the bytes are their saved text
pub record IsLoadedAs (r : Rules) (bytes : List ℕ) (s : Start) : Type 0 where
  pub fit : AnswersFit (tree_of r) s.answers
  pub spelled : bytes ≡ saved (tree_of r) s.answers
  pub front : s.front ≡ []

-- The bytes are a carried text. The answers are those of the lines that are kept, and fit the dictionary, and for each of the
-- others a line is written.
pub record IsCarriedAs (r : Rules) (bytes : List ℕ) (s : Start) : Type 0 where
  pub text : CarriedText
  pub is_carried : IsCarried text
  pub spelled : bytes ≡ carried text
  pub kept : AreOfKept r text s.answers
  pub fit : AnswersFit (tree_of r) s.answers
  pub front : s.front ≡ dropped_keys r text.lines

-- a script over these rules begins so
abbrev pub IsStart : Rules → Basis → Start → Type 0
IsStart r no_text s = s ≡ start_of_none
IsStart r (to_load bytes) s = (length bytes ≤ saved_limit) × IsLoadedAs r bytes s
IsStart r (to_carry bytes) s = (length bytes ≤ saved_limit) × IsCarriedAs r bytes s

-- ---- or why it doesn't begin

-- The bytes are no text of the kind, and this is the first line with which they begin none. Where they are too long the number
-- is 0.
abbrev pub IsBadText : (List ℕ → Type 0) → List ℕ → ℕ → Type 0
IsBadText IsText bytes n = ((saved_limit < length bytes) × (n ≡ 0)) ⊎ ((length bytes ≤ saved_limit) × IsRefusedAt IsText bytes n)

-- over these rules the saved text is refused at this line
abbrev pub IsRefusedStart : Rules → Basis → ℕ → Type 0
IsRefusedStart r no_text n = ⊥
IsRefusedStart r (to_load bytes) n = IsBadText (IsSavedText (tree_of r)) bytes n
IsRefusedStart r (to_carry bytes) n = IsBadText IsCarriedText bytes n
