-- How a session is begun, and why it isn't.
use Rattle.std.specs.Prelude.{◌≡◌, ◌⊎◌, ℕ, ◌<◌, ◌≤◌, true, List, [], length, Some, None}
use Rattle.built_in.specs.BuiltIns.{IsBrought, built_in_of}
use Rattle.built_in.specs.declared.built_in.BuiltIn.{BuiltIn}
use Rattle.answers.specs.Answered.{Answered, start}
use Rattle.dictionary.specs.AcceptedParts.{names_of}
use Rattle.dictionary.specs.Faults.{AreAccepted, IsFault, Refuses}
use Rattle.dict_meaning.specs.Fits.{AnswersFit}
use Rattle.dictionary.specs.declared.fault.DictFault.TheVariants.{NoMemory}
use Rattle.graph_session.specs.Rules.{Rules, tree_of}
use Rattle.session_lines.specs.Stepping.{ScriptStart, at_start}
use Rattle.saved_text.specs.CarriedText.{IsCarriedText}
use Rattle.save_file.specs.Carrying.{IsCarry}
use Rattle.save_file.specs.Dropped.{dropped_text}
use Rattle.saved_text.specs.Refused.{IsRefusedAt}
use Rattle.save_file.specs.Loading.{IsSavedText}
use Rattle.save_file.specs.Resuming.{IsResume, DroppedLine}
use Rattle.saved_text.specs.SavedText.{saved}
use Rattle.saved_text.specs.declared.fault.LoadFault.{LoadFault}
use Rattle.saved_text.specs.declared.fault.LoadFault.TheVariants as loads
use Rattle.fact_graph_c.specs.Answering.{rules_of, said, state_of}
use Rattle.fact_graph_c.specs.DroppedLines.{dropped_lines_text}
use Rattle.session_lines.specs.Tables.{standard_checks, standard_relations}
use Rattle.fact_graph_c.specs.declared.engine.Engine.{Engine}
use Rattle.fact_graph_c.specs.declared.fault.NotBegun.{NotBegun}
use Rattle.fact_graph_c.specs.declared.fault.NotBegun.TheVariants.{Dictionary, Saved, Unknown}

-- ---- begun

-- changes are numbered, and slots may be watched by the standard relations
abbrev pub script_start_of : Answered → ScriptStart
script_start_of a = record { answers = a; stamps = true; relations = standard_relations }

-- over these rules from these answers, before any line
pub record IsBegun (r : Rules) (a : Answered) (front : List ℕ) (e : Engine) : Type 0 where
  pub by : rules_of e ≡ r
  pub state : state_of e ≡ at_start r (script_start_of a)
  pub text : said e ≡ front

-- the bytes spell a dictionary that has no fault
abbrev pub Accepts : List ℕ → Rules → Type 0
Accepts bytes r = AreAccepted bytes (names_of standard_checks) r.accepted × (r.checks ≡ standard_checks)

-- with no answers
abbrev pub Opens : List ℕ → Engine → Type 0
Opens bytes e = (r : Rules) × Accepts bytes r × IsBegun r start [] e

-- the words are those of a dictionary that comes with the library, and these are its rules: it names no check
abbrev pub Brings : List ℕ → Rules → Type 0
Brings words r = (b : BuiltIn) × (built_in_of words ≡ Some b) × IsBrought b r.accepted × (r.checks ≡ [])

-- over it, with no answers
abbrev pub OpensBuiltIn : List ℕ → Engine → Type 0
OpensBuiltIn words e = (r : Rules) × Brings words r × IsBegun r start [] e

-- over the dictionary of another, with no answers
abbrev pub IsFurther : Engine → Engine → Type 0
IsFurther of e = IsBegun (rules_of of) start [] e

-- over these rules with the answers of which the bytes are the saved text
abbrev pub LoadsOver : Rules → List ℕ → Engine → Type 0
LoadsOver r text e = (a : Answered) × AnswersFit (tree_of r) a × (text ≡ saved (tree_of r) a) × IsBegun r a [] e

abbrev pub Loads : List ℕ → List ℕ → Engine → Type 0
Loads bytes text e = (r : Rules) × Accepts bytes r × LoadsOver r text e

-- with the answers of the lines that are kept of them; of the others it is said that they are dropped
abbrev pub CarriesOver : Rules → List ℕ → Engine → Type 0
CarriesOver r text e = (a : Answered) × ((dropped : List ℕ) × ((c : IsCarry r text a dropped) × IsBegun r a (dropped_text r c.0.lines) e))

abbrev pub Carries : List ℕ → List ℕ → Engine → Type 0
Carries bytes text e = (r : Rules) × Accepts bytes r × CarriesOver r text e

-- with the answers that `set` would take of a text that came from outside; of the other lines it is said why they aren't kept
abbrev pub ResumesOver : Rules → List ℕ → Engine → Type 0
ResumesOver r text e = (a : Answered) × ((others : List DroppedLine) × (IsResume r text a others × IsBegun r a (dropped_lines_text others) e))

abbrev pub Resumes : List ℕ → List ℕ → Engine → Type 0
Resumes bytes text e = (r : Rules) × Accepts bytes r × ResumesOver r text e

-- ---- or not

abbrev pub saved_limit : ℕ
saved_limit = 67108864

-- the bytes are no text of the kind, and this is the first line with which they begin none; where they are too long it is 0
abbrev pub IsBadText : (List ℕ → Type 0) → List ℕ → ℕ → Type 0
IsBadText IsText bytes n = ((saved_limit < length bytes) × (n ≡ 0)) ⊎ ((length bytes ≤ saved_limit) × IsRefusedAt IsText bytes n)

-- there was no memory
abbrev pub IsWantOfMemory : NotBegun → Type 0
IsWantOfMemory why = why ≡ Dictionary NoMemory

-- the saved text is refused, or there was no memory
abbrev pub RefusesOver : (List ℕ → Type 0) → List ℕ → NotBegun → Type 0
RefusesOver IsText text (Dictionary fault) = fault ≡ NoMemory
RefusesOver IsText text (Saved line) = IsBadText IsText text line
RefusesOver IsText text Unknown = ⊥

-- what a fault of a saved text comes to
abbrev pub IsFaultOfText : LoadFault → NotBegun → Type 0
IsFaultOfText (loads.BadSaved line) why = why ≡ Saved line
IsFaultOfText loads.NoMemory why = why ≡ Dictionary NoMemory

-- this is the dictionary's first fault, or there was no memory
abbrev pub NotOpened : List ℕ → NotBegun → Type 0
NotOpened bytes (Dictionary fault) = Refuses (IsFault bytes (names_of standard_checks)) fault
NotOpened bytes (Saved line) = ⊥
NotOpened bytes Unknown = ⊥

-- the words are those of none, or there was no memory
abbrev pub NotBrought : List ℕ → NotBegun → Type 0
NotBrought words (Dictionary fault) = fault ≡ NoMemory
NotBrought words (Saved line) = ⊥
NotBrought words Unknown = built_in_of words ≡ None

-- or the dictionary is accepted, and the text is refused
abbrev pub NotResumed : (Rules → List ℕ → Type 0) → List ℕ → List ℕ → NotBegun → Type 0
NotResumed IsText bytes text (Dictionary fault) = Refuses (IsFault bytes (names_of standard_checks)) fault
NotResumed IsText bytes text (Saved line) = (r : Rules) × Accepts bytes r × IsBadText (IsText r) text line
NotResumed IsText bytes text Unknown = ⊥

abbrev pub NotLoaded : List ℕ → List ℕ → NotBegun → Type 0
NotLoaded bytes text why = NotResumed (λ r. IsSavedText (tree_of r)) bytes text why

abbrev pub NotCarried : List ℕ → List ℕ → NotBegun → Type 0
NotCarried bytes text why = NotResumed (λ _. IsCarriedText) bytes text why
