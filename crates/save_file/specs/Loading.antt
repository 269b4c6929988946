-- Which bytes are a saved text, and what is said of others.
use Rattle.std.specs.Prelude.{◌≡◌, ℕ, List}
use Rattle.dict_source.specs.Dictionary.{Dictionary as Tree}
use Rattle.answers.specs.Answered.{Answered}
use Rattle.value_text.specs.Enums.{AreLists}
use Rattle.dict_meaning.specs.Accepted.{Accepted, IsAccepted}
use Rattle.dict_meaning.specs.Fits.{AnswersFit}
use Rattle.saved_text.specs.SavedText.{saved}
use Rattle.saved_text.specs.declared.fault.LoadFault.{LoadFault}
use Rattle.saved_text.specs.declared.fault.LoadFault.TheVariants.{BadSaved, NoMemory}
use Rattle.saved_text.specs.Refused.{IsRefusedAt}

-- the bytes are the saved text of answers that fit
abbrev pub IsSavedText : Tree → List ℕ → Type 0
IsSavedText d bytes = (a : Answered) × AnswersFit d a × (bytes ≡ saved d a)

-- what a fault says; want of memory says nothing
abbrev pub RefusesText : Tree → List ℕ → LoadFault → Type 0
RefusesText d bytes (BadSaved n) = IsRefusedAt (IsSavedText d) bytes n
RefusesText d bytes NoMemory = Unit {0}

-- ---- laws

-- a saved text is that of one list of answers alone
abbrev pub SavedTextsTellAnswers : Type 0
SavedTextsTellAnswers = (names : List (List ℕ)) (d : Accepted) → IsAccepted names d → AreLists d.tree.enums → (a b : Answered) → AnswersFit d.tree a → AnswersFit d.tree b → saved d.tree a ≡ saved d.tree b → a ≡ b
