-- What is read of the text of any dictionary's session, or of this one's.
use Rattle.std.specs.Prelude.{◌≡◌, ◌≢◌, ℕ, List, ◌∷◌, ◌++◌, Option, Some, None, Result, Ok, Err}
use Rattle.value_text.specs.Enums.{AreLists}
use Rattle.dict_meaning.specs.Accepted.{IsAccepted}
use Rattle.dictionary.specs.AcceptedParts.{AcceptedParts, accepted, names_of}
use Rattle.saved_text.specs.CarriedText.{CarriedLine, CarriedText, IsCarried, carried, carried_lines}
use Rattle.save_file.specs.Carrying.{RefusesCarried}
use Rattle.save_file.specs.Loading.{RefusesText}
use Rattle.save_file.specs.OwnLines.{AreOwn, IsHighest, IsPositionOfLast}
use Rattle.saved_text.specs.declared.carried_read.CarriedRead.{CarriedRead}
use Rattle.saved_text.specs.declared.carried_stage.CarriedStage.{CarriedStage}
use Rattle.saved_text.specs.declared.carried_stage.CarriedStage.TheVariants.{Lines}
use Rattle.saved_text.specs.declared.fault.LoadFault.{LoadFault}
use Rattle.saved_text.specs.declared.fault.LoadFault.TheVariants.{BadSaved}
use Rattle.saved_text.specs.CarriedParsing.{IsNext, lines_of, stage_lines, text_of, texts_of}
use Rattle.saved_text.specs.declared.fault.LoadFault.TheVariants as faults

abbrev pub IsWhose : Option AcceptedParts → Type 0
IsWhose None = Unit {0}
IsWhose (Some k) = IsAccepted (names_of k.checks) (accepted k) × AreLists (accepted k).tree.enums

abbrev pub IsOf : Option AcceptedParts → List CarriedLine → Type 0
IsOf None lines = Unit {0}
IsOf (Some k) lines = AreOwn (accepted k).tree lines

-- and where the last of them stands
abbrev pub IsOfUpTo : Option AcceptedParts → List CarriedLine → ℕ → Type 0
IsOfUpTo None lines last = Unit {0}
IsOfUpTo (Some k) lines last = AreOwn (accepted k).tree lines × IsHighest (accepted k).tree lines last

-- the last line that was read may be the dictionary's: it is then the one up to which all are
abbrev pub JudgesLast : Option AcceptedParts → CarriedStage → ℕ → Option ℕ → Type 0
JudgesLast (Some k) (Lines r) last new = IsPositionOfLast (accepted k).tree (lines_of r) last new
JudgesLast _ stage last new = new ≡ Some last

abbrev pub ReadsNext : Option AcceptedParts → CarriedStage → List ℕ → ℕ → Result (CarriedStage × ℕ) LoadFault → Type 0
ReadsNext whose old line number (Ok new) = IsNext old line new.0 × IsOfUpTo whose (stage_lines new.0) new.1
ReadsNext whose old line number (Err (BadSaved n)) = (n ≡ number) × ((c : CarriedText) (more : List (List ℕ)) → IsCarried c → IsOf whose c.lines → carried_lines c ≢ texts_of old ++ line ∷ more)
ReadsNext whose old line number (Err faults.NoMemory) = Unit {0}

abbrev pub Refuses : Option AcceptedParts → List ℕ → LoadFault → Type 0
Refuses None bytes fault = RefusesCarried bytes fault
Refuses (Some k) bytes fault = RefusesText (accepted k).tree bytes fault

-- the bytes are the carried text of the lines
abbrev pub GivesLines : Option AcceptedParts → List ℕ → Result CarriedRead LoadFault → Type 0
GivesLines whose bytes (Ok r) = IsCarried (text_of r) × (bytes ≡ carried (text_of r)) × IsOf whose (lines_of r)
GivesLines whose bytes (Err fault) = Refuses whose bytes fault
