-- What `save` is to give, and how its steps end.
use Rattle.std.specs.Prelude.{◌≡◌, ◌⊎◌, ℕ, ◌≤◌, false, List, [], length}
use Rattle.std.specs.Io.KnownBytes.{Consumes}
use Rattle.fg_io.specs.Outside.{MayBe}
use Rattle.script_lines.specs.Lines.{ended_lines}
use Rattle.answers.specs.Answered.{start}
use Rattle.dictionary.specs.declared.fault.DictFault.{DictFault}
use Rattle.dictionary.specs.AcceptedParts.{Named}
use Rattle.graph_session.specs.Rules.{Rules, tree_of}
use Rattle.saved_text.specs.SavedText.{saved}
use Rattle.script_runs.specs.declared.status.Status.{Status}
use Rattle.script_runs.specs.declared.status.Status.TheVariants.{Done, ReadFault, WriteFault, ScriptTooLong, NoMemory}
use Rattle.script_runs.specs.declared.mode.Mode.TheVariants.{Incremental}
use Rattle.script_runs.specs.Devices.{SentNothing, SentPart, SentWhole, SinkFailed, SourceFailed}
use Rattle.interview_ends.specs.Dictionaries.{Content, HasFault, IsAcceptedAs}
use Rattle.script_runs.specs.DefinedScript.{Defined, answered_lines, defined_script, script_limit}
use Rattle.interview_ends.specs.DefinedEnds.{defined_fault}
use Rattle.script_runs.specs.Meanings.{Meaning, meaning_of}
use Rattle.script_runs.specs.ScriptEnds.{ReadThrough, ScriptDid}

-- ---- what it comes to

-- the answers that stand behind the lines of a script that are answered, as they are saved
abbrev pub saved_after : Rules → Meaning → List ℕ → List ℕ
saved_after r m script = saved (tree_of r) (m.answers (answered_lines script))

-- they are saved where the script is done, and of one that is too long nothing is
abbrev pub text_with : Status → List ℕ → List ℕ
text_with Done text = text
text_with other text = []

-- what a script is to leave behind it: no reply, the answers that stand at its end, and the status that a run has
abbrev pub defined_save : Rules → Meaning → List ℕ → Defined
defined_save r m script =
    let status = (defined_script m script).status in
    record { text = text_with status (saved_after r m script); status = status }

-- its lines mean what they mean to a session over the incremental engine, from no answers
abbrev pub save_meaning : Rules → List Named → Meaning
save_meaning r relations = meaning_of r Incremental relations start

-- what `save` is to give over a dictionary and the bytes of a script, with these checks: the saved text, or the first fault
abbrev pub SavesTo : Content → List Named → List Named → List ℕ → Defined → Type 0
SavesTo content checks relations script d =
    ((r : Rules) × IsAcceptedAs checks content r × (d ≡ defined_save r (save_meaning r relations) script))
    ⊎ ((fault : DictFault) × HasFault checks content fault × (d ≡ defined_fault fault))

-- it comes to one text and one status at most
abbrev pub OneEndOfSave : Type 0
OneEndOfSave = (content : Content) (checks relations : List Named) (script : List ℕ) (d e : Defined) → SavesTo content checks relations script d → SavesTo content checks relations script e → d ≡ e

-- ---- how it ends

-- a read failed behind these bytes, in which no `quit` ended
pub record UnquitSoFar (m : Meaning) (did : ScriptDid) : Type 0 where
  pub bytes : List ℕ
  pub read : Consumes did.input.before.left did.input.after.left bytes
  pub within : length bytes ≤ script_limit
  pub unquit : m.over (ended_lines bytes) ≡ false

-- it was done with this script, which it may have been given
abbrev pub DoneWith : Meaning → ScriptDid → List ℕ → Type 0
DoneWith m did script = MayBe did.input.before.left script × ((defined_script m script).status ≡ Done)

-- over an accepted dictionary, by its status
abbrev pub ScriptSaves : Rules → Meaning → ScriptDid → Status → Type 0
ScriptSaves r m did Done = ((script : List ℕ) × DoneWith m did script × SentWhole did.output (saved_after r m script)) × ReadThrough m did
ScriptSaves r m did ScriptTooLong = (script : List ℕ) × MayBe did.input.before.left script × ((defined_script m script).status ≡ ScriptTooLong) × SentNothing did.output
ScriptSaves r m did ReadFault = SourceFailed did.input × UnquitSoFar m did × SentNothing did.output
ScriptSaves r m did WriteFault = SinkFailed did.output × ((script : List ℕ) × DoneWith m did script × SentPart did.output (saved_after r m script))
ScriptSaves r m did NoMemory = SentNothing did.output
ScriptSaves r m did other = ⊥
