-- How an interview ends for the words `save` and `save-year`, and what is known of it when it ends.
use Rattle.std.specs.Prelude.{◌≡◌, ◌⊎◌, ℕ, List, [], ◌∷◌, Some}
use Rattle.fg_io.specs.Outside.{missing}
use Rattle.dictionary.specs.declared.fault.DictFault.{DictFault}
use Rattle.graph_session.specs.Rules.{Rules}
use Rattle.built_in.specs.declared.built_in.BuiltIn.{BuiltIn}
use Rattle.script_runs.specs.declared.status.Status.{Status}
use Rattle.script_runs.specs.declared.status.Status.TheVariants.{Done, DictionaryRefused, FetchFault, ReadFault, WriteFault, ScriptTooLong, NoMemory}
use Rattle.script_runs.specs.Devices.{SentNothing, SentPart, SentWhole, ShelfFailed, SinkFailed, SourceFailed}
use Rattle.interview_ends.specs.Dictionaries.{Content, Gives, HasFault, IsAcceptedAs, MayGive}
use Rattle.interview_ends.specs.Given.{Did, EndedAs, Given, IsOneOf, Unread}
use Rattle.script_runs.specs.DefinedScript.{Defined}
use Rattle.interview_ends.specs.DefinedEnds.{defined_fault}
use Rattle.interview_ends.specs.Save.{SavesTo, ScriptSaves, save_meaning}
use Rattle.script_runs.specs.ScriptEnds.{ReadThrough}
use Rattle.interview.specs.Words.{IsSave}
use Rattle.interview_ends.specs.Origins.{Origin, file, program}

-- ---- how it ends

-- a dictionary over which it may have been given to save, wherever it came from, and that is accepted
pub record AcceptedSave (given : Given) : Type 0 where
  pub origin : Origin
  pub content : Content
  pub rules : Rules
  pub asked : IsSave given.words origin
  pub gave : MayGive given.contents origin content
  pub is_accepted : IsAcceptedAs given.checks content rules

-- the same, with its fault
pub record RefusedSave (given : Given) : Type 0 where
  pub origin : Origin
  pub content : Content
  pub fault : DictFault
  pub asked : IsSave given.words origin
  pub gave : MayGive given.contents origin content
  pub is_fault : HasFault given.checks content fault

-- its script ended with this status
abbrev pub AcceptedSaves : Given → Did → Status → Type 0
AcceptedSaves given did status = (over : AcceptedSave given) × ScriptSaves over.rules (save_meaning over.rules given.relations) did.script status

-- words that save
abbrev pub AreToSave : List (List ℕ) → Type 0
AreToSave words = (origin : Origin) × IsSave words origin

-- the table of its ends: the text of each status, and its cause
abbrev pub SaveEnds : Given → Did → Status → Type 0
SaveEnds given did Done = AcceptedSaves given did Done
SaveEnds given did DictionaryRefused = (save : RefusedSave given) × SentWhole did.script.output (defined_fault save.fault).text × Unread did
SaveEnds given did FetchFault = ShelfFailed did.files × IsSave given.words (file did.files.after.failed_name) × SentNothing did.script.output × Unread did
SaveEnds given did ReadFault = AcceptedSaves given did ReadFault
SaveEnds given did WriteFault = AcceptedSaves given did WriteFault ⊎ (SinkFailed did.script.output × ((save : RefusedSave given) × SentPart did.script.output (defined_fault save.fault).text × Unread did))
SaveEnds given did ScriptTooLong = AcceptedSaves given did ScriptTooLong
SaveEnds given did NoMemory = (AreToSave given.words × SentNothing did.script.output × Unread did) ⊎ AcceptedSaves given did NoMemory
SaveEnds given did other = ⊥

-- ---- what is known of it

-- a dictionary and a script that are known
pub record KnownSave (given : Given) : Type 0 where
  pub origin : Origin
  pub content : Content
  pub script : List ℕ
  pub asked : IsSave given.words origin
  pub gives : Gives given.contents origin content
  pub read : given.left ≡ Some script

-- what it comes to
abbrev pub SaveComesTo : (given : Given) → KnownSave given → Defined → Type 0
SaveComesTo given save d = SavesTo save.content given.checks given.relations save.script d

-- it ended as it comes to, with the text whole
abbrev pub EndedBySave : (given : Given) → KnownSave given → Did → Status → Type 0
EndedBySave given save did status = (d : Defined) × SaveComesTo given save d × EndedAs did status d

-- a fetch of the name of its dictionary failed
abbrev pub SaveFetchFailed : Given → Did → Type 0
SaveFetchFailed given did = ShelfFailed did.files × IsSave given.words (file did.files.after.failed_name)

pub record SaveInterviewed (given : Given) (did : Did) (status : Status) : Type 0 where
  -- a name that isn't there is a failed fetch
  pub missing : (name : List ℕ) → IsSave given.words (file name) → given.contents name ≡ missing → IsOneOf status (FetchFault ∷ NoMemory ∷ [])
  -- over a dictionary that is known and has this fault it ends with its line, whatever the script
  pub refused : (origin : Origin) (content : Content) (fault : DictFault) → IsSave given.words origin → Gives given.contents origin content → HasFault given.checks content fault
      → EndedAs did status (defined_fault fault) ⊎ IsOneOf status (FetchFault ∷ WriteFault ∷ NoMemory ∷ [])
  -- and reads nothing of the script
  pub refused_unread : (origin : Origin) (content : Content) (fault : DictFault) → IsSave given.words origin → Gives given.contents origin content → HasFault given.checks content fault → Unread did
  -- over a dictionary that the program brings with it, it ends by no fault of it, and by no fetch
  pub built_in : (b : BuiltIn) → IsSave given.words (program b) → IsOneOf status (Done ∷ ReadFault ∷ WriteFault ∷ ScriptTooLong ∷ NoMemory ∷ [])
  -- where dictionary and script are known it ends as defined, or by a fault of the outside, or for want of memory
  pub exact : (save : KnownSave given) → EndedBySave given save did status ⊎ IsOneOf status (FetchFault ∷ ReadFault ∷ WriteFault ∷ NoMemory ∷ [])
  -- and where the outside doesn't fail, as defined, or for want of memory
  pub complete : (save : KnownSave given) → (SaveFetchFailed given did → ⊥) → (SourceFailed did.script.input → ⊥) → (SinkFailed did.script.output → ⊥) → EndedBySave given save did status ⊎ (status ≡ NoMemory)
  -- whatever the status: what it wrote is a prefix of the defined text
  pub prefix : (save : KnownSave given) (d : Defined) → SaveComesTo given save d → SentPart did.script.output d.text
  -- where no script was done, nothing was written
  pub unsaved : AreToSave given.words → IsOneOf status (FetchFault ∷ ReadFault ∷ ScriptTooLong ∷ NoMemory ∷ []) → SentNothing did.script.output
  -- with status 0 the dictionary is accepted, and the script was read to its end, or to that of the piece in which `quit` ended
  pub read_through : (save : KnownSave given) → status ≡ Done → (r : Rules) × IsAcceptedAs given.checks save.content r × ReadThrough (save_meaning r given.relations) did.script
