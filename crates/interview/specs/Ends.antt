-- How an interview ends: for each status, what was written and why it came.
use Rattle.std.specs.Prelude.{◌≡◌, ◌⊎◌, ℕ, List, [], ◌∷◌, Some}
use Rattle.fg_io.specs.Outside.{MayHold, holds, missing as not_there}
use Rattle.script_lines.specs.Joined.{joined}
use Rattle.script_lines.specs.Lines.{ScriptLine}
use Rattle.dictionary.specs.declared.fault.DictFault.{DictFault}
use Rattle.dictionary.specs.AcceptedParts.{names_of}
use Rattle.dictionary.specs.Faults.{IsFault}
use Rattle.graph_session.specs.Rules.{Rules}
use Rattle.script_runs.specs.declared.status.Status.{Status}
use Rattle.script_runs.specs.declared.status.Status.TheVariants.{Done, DictionaryRefused, Usage, FetchFault, ReadFault, WriteFault, ScriptTooLong, NoMemory, SavedRefused}
use Rattle.script_runs.specs.Devices.{SentNothing, SentPart, SentWhole, ShelfFailed, SinkFailed, SourceFailed}
use Rattle.built_in.specs.declared.built_in.BuiltIn.{BuiltIn}
use Rattle.interview_ends.specs.Beginnings.{Basis, Brings, IsRefusedStart, IsStart, MayBring, Start}
use Rattle.interview_ends.specs.Dictionaries.{Content, Gives, HasFault, IsAcceptedAs, MayGive}
use Rattle.interview_ends.specs.DefinedEnds.{ChecksTo, defined_fault, defined_saved_refused}
use Rattle.script_runs.specs.DefinedScript.{Defined}
use Rattle.interview.specs.Interview.{RunsTo, TablesHoldIn, usage}
use Rattle.interview.specs.Finals.{AreFinalsKept}
use Rattle.interview.specs.FinalFigures.{FinalsAreFigures}
use Rattle.script_runs.specs.Meanings.{Meaning, meaning_of}
use Rattle.interview.specs.GenEnds.{GenEnds, GenInterviewed}
use Rattle.interview.specs.SaveEnds.{SaveEnds, SaveInterviewed}
use Rattle.interview_ends.specs.Given.{Did, EndedAs, Given, IsOneOf, Unread}
use Rattle.script_runs.specs.ScriptEnds.{EndsBehind, ReadThrough}
use Rattle.interview.specs.Words.{Fetches, HasNoForm, IsCheck, IsFrom, IsRun}
use Rattle.interview_ends.specs.Origins.{Origin, program, unanswered}

-- a dictionary that it may have been given to run, wherever it came from, and that is accepted
pub record AcceptedRun (given : Given) : Type 0 where
  pub origin : Origin
  pub content : Content
  -- what a session over it goes by
  pub rules : Rules
  pub asked : IsRun given.words origin
  pub gave : MayGive given.contents origin content
  pub is_accepted : IsAcceptedAs given.checks content rules

-- over such a dictionary, how it begins
pub record BegunRun (given : Given) : Type 0 where
  pub over : AcceptedRun given
  pub basis : Basis
  pub start : Start
  pub brought : MayBring given.contents over.asked.beginning basis
  pub is_start : IsStart over.rules basis start

-- what the lines of its script mean
abbrev pub meaning_in : (given : Given) → BegunRun given → Meaning
meaning_in given run = meaning_of run.over.rules run.over.asked.mode given.relations run.start.answers

-- its script ended with this status, behind what is written before the replies
abbrev pub BegunEnds : Given → Did → Status → Type 0
BegunEnds given did status = (run : BegunRun given) × EndsBehind (meaning_in given run) (joined run.start.front) did.script status

-- a dictionary that it may have been given to run, with its fault
pub record RefusedRun (given : Given) : Type 0 where
  pub origin : Origin
  pub content : Content
  pub fault : DictFault
  pub asked : IsRun given.words origin
  pub gave : MayGive given.contents origin content
  pub is_fault : HasFault given.checks content fault

-- the line of the fault was written whole, without the script
abbrev pub RefusedEnds : Given → Did → Type 0
RefusedEnds given did = (run : RefusedRun given) × SentWhole did.script.output (defined_fault run.fault).text × Unread did

-- over an accepted dictionary, a saved text that it may have been given, and the line at which that is refused
pub record SavedRefusedRun (given : Given) : Type 0 where
  pub over : AcceptedRun given
  pub basis : Basis
  pub line : ℕ
  pub brought : MayBring given.contents over.asked.beginning basis
  pub is_refused : IsRefusedStart over.rules basis line

-- this was written whole, without the script
abbrev pub SavedRefusedEnds : Given → Did → Type 0
SavedRefusedEnds given did = (run : SavedRefusedRun given) × SentWhole did.script.output (defined_saved_refused run.line).text × Unread did

-- a check that it may have been given, and what it comes to
pub record Check (given : Given) : Type 0 where
  pub name : List ℕ
  pub bytes : List ℕ
  pub outcome : Defined
  pub asked : IsCheck given.words name
  pub held : MayHold (given.contents name) bytes
  pub judged : ChecksTo bytes given.checks outcome

-- the check has this status, and its text was written whole, without the script
abbrev pub CheckEndsAs : Given → Did → Status → Type 0
CheckEndsAs given did status = (check : Check given) × (check.outcome.status ≡ status) × SentWhole did.script.output check.outcome.text × Unread did

-- a prefix of a line that ends an interview was written, or of those before the replies, without the script
abbrev pub LinePart : Given → Did → Type 0
LinePart given did =
    (HasNoForm given.words × SentPart did.script.output usage.text × Unread did)
    ⊎ (((run : RefusedRun given) × SentPart did.script.output (defined_fault run.fault).text × Unread did)
    ⊎ (((check : Check given) × SentPart did.script.output check.outcome.text × Unread did)
    ⊎ (((run : SavedRefusedRun given) × SentPart did.script.output (defined_saved_refused run.line).text × Unread did)
    ⊎ ((run : BegunRun given) × SentPart did.script.output (joined run.start.front) × Unread did))))

-- a name that is fetched: that of a dictionary, or over an accepted one that of the saved text
abbrev pub IsFetched : Given → List ℕ → Type 0
IsFetched given name = Fetches given.words name ⊎ ((over : AcceptedRun given) × IsFrom over.asked.beginning name)

-- The table of ends: the text of each status, and its cause.
abbrev pub Ends : Given → Did → Status → Type 0
Ends given did Done = BegunEnds given did Done ⊎ CheckEndsAs given did Done
Ends given did DictionaryRefused = RefusedEnds given did ⊎ CheckEndsAs given did DictionaryRefused
Ends given did Usage = HasNoForm given.words × SentWhole did.script.output usage.text × Unread did
Ends given did FetchFault = ShelfFailed did.files × IsFetched given did.files.after.failed_name × SentNothing did.script.output × Unread did
Ends given did ReadFault = BegunEnds given did ReadFault
Ends given did WriteFault = BegunEnds given did WriteFault ⊎ (SinkFailed did.script.output × LinePart given did)
Ends given did ScriptTooLong = BegunEnds given did ScriptTooLong
Ends given did NoMemory = (SentNothing did.script.output × Unread did) ⊎ BegunEnds given did NoMemory
Ends given did SavedRefused = SavedRefusedEnds given did

-- the same, or the table of `gen` or of `save`
abbrev pub EndsByWord : Given → Did → Status → Type 0
EndsByWord given did status = Ends given did status ⊎ (GenEnds given did status ⊎ SaveEnds given did status)

-- ---- what is known of an interview when it ends

-- a dictionary of a run that is known, and accepted
pub record KnownDictionary (given : Given) : Type 0 where
  pub origin : Origin
  pub content : Content
  pub rules : Rules
  pub asked : IsRun given.words origin
  pub gives : Gives given.contents origin content
  pub is_accepted : IsAcceptedAs given.checks content rules

-- a run whose dictionary, saved text and script are known
pub record KnownRun (given : Given) : Type 0 where
  pub origin : Origin
  pub content : Content
  pub basis : Basis
  pub script : List ℕ
  pub asked : IsRun given.words origin
  pub gives : Gives given.contents origin content
  pub brings : Brings given.contents asked.beginning basis
  pub read : given.left ≡ Some script

-- a check whose dictionary is known
pub record KnownCheck (given : Given) : Type 0 where
  pub name : List ℕ
  pub bytes : List ℕ
  pub asked : IsCheck given.words name
  pub held : given.contents name ≡ holds bytes

-- it ended as a check of the bytes comes to, with the text whole
abbrev pub EndedByCheck : Given → Did → Status → List ℕ → Type 0
EndedByCheck given did status bytes = (d : Defined) × ChecksTo bytes given.checks d × EndedAs did status d

-- what a run that is known comes to
abbrev pub ComesTo : (given : Given) → KnownRun given → Defined → Type 0
ComesTo given run d = RunsTo run.content given.checks run.basis run.asked.mode given.relations run.script d

-- it ended as a run that is known comes to, with the text whole
abbrev pub EndedByRun : (given : Given) → KnownRun given → Did → Status → Type 0
EndedByRun given run did status = (d : Defined) × ComesTo given run d × EndedAs did status d

-- a fetch of a name of the words failed
abbrev pub FetchFailed : Given → Did → Type 0
FetchFailed given did = ShelfFailed did.files × IsFetched given did.files.after.failed_name

pub record Interviewed (given : Given) (did : Did) (status : Status) : Type 0 where
  -- each status with its text and its cause
  pub ends : EndsByWord given did status
  -- words without a form get the line of usage
  pub no_form : HasNoForm given.words → IsOneOf status (Usage ∷ WriteFault ∷ NoMemory ∷ [])
  -- a name that isn't there is a failed fetch
  pub missing : (name : List ℕ) → Fetches given.words name → given.contents name ≡ not_there → IsOneOf status (FetchFault ∷ NoMemory ∷ [])
  -- a run over a dictionary that is known and has this fault ends with its line, whatever the script
  pub refused : (origin : Origin) (content : Content) (fault : DictFault) → IsRun given.words origin → Gives given.contents origin content → HasFault given.checks content fault
      → EndedAs did status (defined_fault fault) ⊎ IsOneOf status (FetchFault ∷ WriteFault ∷ NoMemory ∷ [])
  -- and reads nothing of the script
  pub refused_unread : (origin : Origin) (content : Content) (fault : DictFault) → IsRun given.words origin → Gives given.contents origin content → HasFault given.checks content fault → Unread did
  -- over a dictionary that is known and accepted, a saved text that isn't there is a failed fetch
  pub saved_missing : (dict : KnownDictionary given) (name : List ℕ) → IsFrom dict.asked.beginning name → given.contents name ≡ not_there → IsOneOf status (FetchFault ∷ NoMemory ∷ [])
  -- over such a dictionary, a saved text that is known and refused ends it with the line of this, whatever the script
  pub saved_refused : (dict : KnownDictionary given) (basis : Basis) (n : ℕ) → Brings given.contents dict.asked.beginning basis → IsRefusedStart dict.rules basis n
      → EndedAs did status (defined_saved_refused n) ⊎ IsOneOf status (FetchFault ∷ WriteFault ∷ NoMemory ∷ [])
  -- and nothing is read of the script
  pub saved_refused_unread : (dict : KnownDictionary given) (basis : Basis) (n : ℕ) → Brings given.contents dict.asked.beginning basis → IsRefusedStart dict.rules basis n → Unread did
  -- a run over a dictionary that the program brings with it ends by no fault of it, and where it names no saved text by no fetch
  pub built_in : (b : BuiltIn) (asked : IsRun given.words (program b)) → asked.beginning ≡ unanswered → IsOneOf status (Done ∷ ReadFault ∷ WriteFault ∷ ScriptTooLong ∷ NoMemory ∷ [])
  pub built_in_carried : (b : BuiltIn) → IsRun given.words (program b) → IsOneOf status (Done ∷ FetchFault ∷ ReadFault ∷ WriteFault ∷ ScriptTooLong ∷ NoMemory ∷ SavedRefused ∷ [])
  -- a run that is known ends as defined, or by a fault of the outside, or for want of memory
  pub exact : (run : KnownRun given) → EndedByRun given run did status ⊎ IsOneOf status (FetchFault ∷ ReadFault ∷ WriteFault ∷ NoMemory ∷ [])
  -- and where the outside doesn't fail, it ends as defined, or for want of memory
  pub complete : (run : KnownRun given) → (FetchFailed given did → ⊥) → (SourceFailed did.script.input → ⊥) → (SinkFailed did.script.output → ⊥) → EndedByRun given run did status ⊎ (status ≡ NoMemory)
  -- whatever the status: what a run that is known wrote is a prefix of the defined text
  pub prefix : (run : KnownRun given) (d : Defined) → ComesTo given run d → SentPart did.script.output d.text
  -- with status 0 the dictionary is accepted, and the script was read to its end, or to that of the piece in which `quit` ended
  pub read_through : (run : KnownRun given) → status ≡ Done
      → (r : Rules) × (s : Start) × IsAcceptedAs given.checks run.content r × IsStart r run.basis s × ReadThrough (meaning_of r run.asked.mode given.relations s.answers) did.script
  -- over a dictionary that is accepted, wherever the lines of a script lead: what is printed as final there is complete, and stays
  -- so under every extension of the answers
  pub finals : (run : BegunRun given) (lines : List ScriptLine) → AreFinalsKept run.over.rules run.over.asked.mode given.relations run.start.answers lines
  -- over the dictionary of a year, wherever the lines of a script lead: what its facts are worth there is what the written tables
  -- of the year give
  pub tables : (b : BuiltIn) → IsRun given.words (program b) → (run : BegunRun given) (lines : List ScriptLine) → TablesHoldIn b run.over.rules ((meaning_in given run).answers lines)
  -- and what is printed as final of such a fact is the tables' figure, for every household that has the answers given there, however
  -- it answers the rest
  pub final_figures : (b : BuiltIn) → IsRun given.words (program b) → (run : BegunRun given) (lines : List ScriptLine) → FinalsAreFigures b run.over.rules run.over.asked.mode given.relations run.start.answers lines
  -- a check reads nothing of the script
  pub check_unread : (name : List ℕ) → IsCheck given.words name → Unread did
  -- a check of a dictionary that is known and has this fault ends with its line
  pub check_refused : (check : KnownCheck given) (fault : DictFault) → IsFault check.bytes (names_of given.checks) fault → EndedAs did status (defined_fault fault) ⊎ IsOneOf status (FetchFault ∷ WriteFault ∷ NoMemory ∷ [])
  -- a check that is known ends as defined, or by a fault of the outside, or for want of memory
  pub check_exact : (check : KnownCheck given) → EndedByCheck given did status check.bytes ⊎ IsOneOf status (FetchFault ∷ WriteFault ∷ NoMemory ∷ [])
  -- whatever the status: what it wrote is a prefix of the defined text
  pub check_prefix : (check : KnownCheck given) (d : Defined) → ChecksTo check.bytes given.checks d → SentPart did.script.output d.text
  -- and where the outside doesn't fail, it ends as defined, or for want of memory
  pub check_complete : (check : KnownCheck given) → (FetchFailed given did → ⊥) → (SinkFailed did.script.output → ⊥) → EndedByCheck given did status check.bytes ⊎ (status ≡ NoMemory)
  -- what is known of `gen`
  pub gen : GenInterviewed given did status
  -- and of `save` and `save-year`
  pub saving : SaveInterviewed given did status
