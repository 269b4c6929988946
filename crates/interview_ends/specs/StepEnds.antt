-- How the single steps of an interview end: a fetch, a text that ends it, a check.
use Rattle.std.specs.Prelude.{◌≡◌, ◌⊎◌, ℕ, ◌<◌, ◌≤◌, List, [], length, Option, Some, None, Result, Ok, Err, Vec}
use Rattle.std.specs.declared.alloc.Global.{Global}
use Rattle.std.specs.Io.KnownBytes.{Appends}
use Rattle.fg_io.specs.Outside.{Contents, Files, MayHold, Output, Rose, RoseByOne}
use Rattle.fg_io.specs.Sent.{Sent}
use Rattle.dictionary.specs.AcceptedParts.{Named, accepted, names_of}
use Rattle.dictionary.specs.Faults.{AreAccepted, IsFault}
use Rattle.interview_ends.specs.declared.fetching.Fetched.{Fetched}
use Rattle.interview_ends.specs.declared.fetching.Fetched.TheVariants as fetches
use Rattle.script_runs.specs.declared.status.Status.{Status}
use Rattle.script_runs.specs.declared.status.Status.TheVariants.{Done, DictionaryRefused, FetchFault, WriteFault, NoMemory, SavedRefused}
use Rattle.script_runs.specs.Devices.{BeforeAfter, SentNothing, SentPart, SentWhole, ShelfFailed, SinkFailed}
use Rattle.graph_session.specs.Refusals.{SameChecks}
use Rattle.graph_session.specs.Rules.{Rules, rules, tree_of}
use Rattle.answers.specs.Meaning.{answered}
use Rattle.dict_meaning.specs.Fits.{AnswersFit}
use Rattle.save_file.specs.Dropped.{AreDropped}
use Rattle.script_lines.specs.Joined.{joined}
use Rattle.saved_text.specs.declared.fault.LoadFault.{LoadFault}
use Rattle.saved_text.specs.declared.fault.LoadFault.TheVariants as loads
use Rattle.interview_ends.specs.CallsFor.{ByStillFetch, CallsForAccepted, CallsForNone}
use Rattle.interview_ends.specs.Given.{Did}
use Rattle.script_runs.specs.Meanings.{Meaning, meaning_of}
use Rattle.interview_ends.specs.declared.resuming.Dropped.{Dropped}
use Rattle.interview_ends.specs.declared.resuming.Dropped.TheVariants as dropped
use Rattle.interview_ends.specs.declared.resuming.Ready.{Ready}
use Rattle.interview_ends.specs.declared.resuming.Resumed.{Resumed}
use Rattle.interview_ends.specs.declared.resuming.Resumed.TheVariants as resumed
use Rattle.script_runs.specs.declared.mode.Mode.{Mode}
use Rattle.interview_ends.specs.Origins.{Beginning, Origin, by_carry, by_load, file, program, unanswered}
use Rattle.interview_ends.specs.Beginnings.{Basis, IsRefusedStart, IsStart, MayBring, Start, saved_limit}
use Rattle.script_runs.specs.ScriptEnds.{EndsBefore, EndsBehind, ScriptDid, UnreadScript}
use Rattle.interview_ends.specs.Dictionaries.{Content, HasFault, IsAcceptedAs, MayGive}
use Rattle.interview_ends.specs.DefinedEnds.{ChecksTo, defined_accepted, defined_fault, defined_saved_refused}
use Rattle.script_runs.specs.DefinedScript.{Defined}

-- ---- a text

-- a text was written whole, with this status, or in part after a fault
abbrev pub EndedBy : Output → Output → List ℕ → Status → Status → Type 0
EndedBy sink sink_now text whole status =
    ((status ≡ whole) × Appends sink.taken sink_now.taken text)
    ⊎ ((status ≡ WriteFault) × Rose sink.faults sink_now.faults × ((rest : List ℕ) × Sent sink.taken sink_now.taken text rest))

-- ---- a fetch

-- some bytes that the name may hold spell this dictionary, or have this fault
abbrev pub FetchedAs : Contents → List Named → Fetched → Type 0
FetchedAs contents checks (fetches.Accepted dict) = (bytes : List ℕ) × MayHold contents bytes × (AreAccepted bytes (names_of checks) (accepted dict) × (dict.checks ≡ checks))
FetchedAs contents checks (fetches.Refused fault) = (bytes : List ℕ) × MayHold contents bytes × IsFault bytes (names_of checks) fault

-- what a check of it comes to
abbrev pub defined_fetched : Fetched → Defined
defined_fetched (fetches.Accepted dict) = defined_accepted (accepted dict)
defined_fetched (fetches.Refused fault) = defined_fault fault

-- no dictionary was had: the shelf failed to give the name, or there was no memory
abbrev pub NotFetched : List ℕ → Files → Files → Status → Type 0
NotFetched name files files_now FetchFault = RoseByOne files.faults files_now.faults × (files_now.failed_name ≡ name)
NotFetched name files files_now NoMemory = Unit {0}
NotFetched name files files_now other = ⊥

-- ---- the dictionary of a run

-- what may come from there is accepted as this dictionary, with the checks of a table, or has this fault
abbrev pub ObtainedAs : (List ℕ → Contents) → Origin → List Named → Fetched → Type 0
ObtainedAs contents origin checks (fetches.Accepted dict) = (content : Content) × MayGive contents origin content × IsAcceptedAs checks content (rules dict) × SameChecks (rules dict) checks
ObtainedAs contents origin checks (fetches.Refused fault) = (content : Content) × MayGive contents origin content × HasFault checks content fault

-- where it is accepted, it came of the calls for it, and where it isn't, none did, or memory was wanting
abbrev pub ObtainedBy : {H : Type 0} → ByStillFetch H → List Named → Origin → H → H → Result Fetched Status → Type 0
ObtainedBy fetched checks origin shelf shelf_now (Ok (fetches.Accepted dict)) = CallsForAccepted fetched checks origin (rules dict) shelf shelf_now
ObtainedBy fetched checks origin shelf shelf_now (Ok (fetches.Refused fault)) = CallsForNone fetched checks origin ⊥ shelf shelf_now
ObtainedBy fetched checks origin shelf shelf_now (Err status) = CallsForNone fetched checks origin (status ≡ FetchFault) shelf shelf_now ⊎ (status ≡ NoMemory)

-- no dictionary was had: the shelf failed to give the name of a file, or there was no memory
abbrev pub NotObtained : Origin → Files → Files → Status → Type 0
NotObtained (file name) files files_now status = NotFetched name files files_now status
NotObtained (program b) files files_now status = status ≡ NoMemory

-- ---- the answers at its start

-- what was fetched may be a saved text, or some text that is too long
abbrev pub FetchedText : Contents → Option (Vec ℕ Global) → Type 0
FetchedText contents (Some v) = MayHold contents v.items × (length v.items ≤ saved_limit)
FetchedText contents None = (bytes : List ℕ) × MayHold contents bytes × (saved_limit < length bytes)

-- what is kept of a saved text gives these lines before the replies
abbrev pub Gives : Dropped → List (List ℕ) → Type 0
Gives dropped.Nothing lines = lines ≡ []
Gives (dropped.Lines bytes numbers) lines = AreDropped bytes.items numbers.items lines × (length bytes.items < 4294967295)

-- a script over these rules begins with these answers and these lines
pub record IsReady (r : Rules) (ready : Ready) (s : Start) : Type 0 where
  pub fit : AnswersFit (tree_of r) (answered ready.answers)
  pub answers : answered ready.answers ≡ s.answers
  pub front : Gives ready.dropped s.front

-- over these rules, what it is judged by gives answers to begin with, or is refused at this line
abbrev pub ResumesAs : Rules → Basis → Resumed → Type 0
ResumesAs r basis (resumed.Begins ready) = (s : Start) × IsStart r basis s × IsReady r ready s
ResumesAs r basis (resumed.Refused n) = IsRefusedStart r basis n

abbrev pub ResumedAs : (List ℕ → Contents) → Beginning → Rules → Resumed → Type 0
ResumedAs contents beginning r found = (basis : Basis) × MayBring contents beginning basis × ResumesAs r basis found

-- a fault of a saved text, or want of memory
abbrev pub RefusedFor : LoadFault → Result Resumed Status → Type 0
RefusedFor (loads.BadSaved n) result = result ≡ Ok (resumed.Refused n)
RefusedFor loads.NoMemory result = result ≡ Err NoMemory

-- there was none: the shelf failed to give the name of the saved text, or there was no memory
abbrev pub NotResumed : Beginning → Files → Files → Status → Type 0
NotResumed unanswered files files_now status = ⊥
NotResumed (by_load name) files files_now status = NotFetched name files files_now status
NotResumed (by_carry name) files files_now status = NotFetched name files files_now status

-- ---- a run over an accepted dictionary

-- how a script ends that this text stands before
abbrev pub StartEnds : Meaning → List ℕ → ScriptDid → Status → Type 0
StartEnds m front did status = EndsBehind m front did status ⊎ EndsBefore front did status

-- it began, and its script ended so
abbrev pub BeginsAndEnds : (List ℕ → Contents) → Beginning → Rules → Mode → List Named → Did → Status → Type 0
BeginsAndEnds contents beginning r mode relations did status =
    (basis : Basis) × MayBring contents beginning basis × ((s : Start) × IsStart r basis s × StartEnds (meaning_of r mode relations s.answers) (joined s.front) did.script status)

-- the saved text was refused
abbrev pub SavedTextEnds : (List ℕ → Contents) → Beginning → Rules → Did → Status → Type 0
SavedTextEnds contents beginning r did status =
    (basis : Basis) × MayBring contents beginning basis × ((n : ℕ) × IsRefusedStart r basis n
    × EndedBy did.script.output.before did.script.output.after (defined_saved_refused n).text SavedRefused status × UnreadScript did.script)

-- or there was none
abbrev pub RunEnds : (List ℕ → Contents) → Beginning → Rules → Mode → List Named → Did → Status → Type 0
RunEnds contents beginning r mode relations did status =
    BeginsAndEnds contents beginning r mode relations did status
    ⊎ (SavedTextEnds contents beginning r did status
    ⊎ (NotResumed beginning did.files.before did.files.after status × (did.script.output.before.taken ≡ did.script.output.after.taken) × UnreadScript did.script))

-- ---- a check

-- what a check did to the outside
pub record CheckDid : Type 0 where
  pub files : BeforeAfter Files
  pub output : BeforeAfter Output

abbrev pub check_did : Files → Files → Output → Output → CheckDid
check_did files files_now sink sink_now = record {
  files = record { before = files; after = files_now };
  output = record { before = sink; after = sink_now };
}

-- some bytes that the name may hold come to this text and status
abbrev pub JudgedAs : Contents → List Named → List ℕ → Status → Type 0
JudgedAs contents checks text status = (bytes : List ℕ) × MayHold contents bytes × ChecksTo bytes checks (record { text = text; status = status })

-- it came to this status, and the text of it was written whole
abbrev pub CheckedAs : Contents → List Named → CheckDid → Status → Type 0
CheckedAs contents checks did status = (text : List ℕ) × JudgedAs contents checks text status × SentWhole did.output text

abbrev pub CheckEnds : Contents → List Named → List ℕ → CheckDid → Status → Type 0
CheckEnds contents checks name did Done = CheckedAs contents checks did Done
CheckEnds contents checks name did DictionaryRefused = CheckedAs contents checks did DictionaryRefused
CheckEnds contents checks name did FetchFault = ShelfFailed did.files × (did.files.after.failed_name ≡ name) × SentNothing did.output
CheckEnds contents checks name did WriteFault = SinkFailed did.output × ((text : List ℕ) × ((status : Status) × (JudgedAs contents checks text status × SentPart did.output text)))
CheckEnds contents checks name did NoMemory = SentNothing did.output
CheckEnds contents checks name did other = ⊥
