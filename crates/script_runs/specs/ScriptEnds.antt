-- How a script ends whose lines mean this: for each status, what was written, what was read, and why it came.
use Rattle.std.specs.Prelude.{◌≡◌, ◌⊎◌, ℕ, ◌≤◌, true, false, List, ◌++◌, length, take, Option}
use Rattle.std.specs.Io.KnownBytes.{Appends, Consumes, IsAtEnd}
use Rattle.fg_io.specs.Outside.{Input, MayBe, Output}
use Rattle.script_lines.specs.Lines.{ended_lines}
use Rattle.session_lines.specs.declared.progress.Progress.{Progress}
use Rattle.session_lines.specs.declared.progress.Progress.TheVariants.{More, Over, Unwritten, OutOfMemory}
use Rattle.script_runs.specs.declared.status.Status.{Status}
use Rattle.script_runs.specs.declared.status.Status.TheVariants.{Done, ReadFault, WriteFault, ScriptTooLong, NoMemory}
use Rattle.script_runs.specs.Devices.{BeforeAfter, SentNothing, SentPart, SentWhole, SinkFailed, SourceFailed}
use Rattle.script_runs.specs.DefinedScript.{answered_lines, defined_script, script_limit}
use Rattle.script_runs.specs.Meanings.{Meaning, texts}
use Rattle.answers.specs.Answered.{Answered}

-- what a script did to its source and its sink
pub record ScriptDid : Type 0 where
  pub input : BeforeAfter Input
  pub output : BeforeAfter Output

abbrev pub script_did : Input → Input → Output → Output → ScriptDid
script_did source source_now sink sink_now = record {
  input = record { before = source; after = source_now };
  output = record { before = sink; after = sink_now };
}

-- the replies to these first lines, whole
abbrev pub RepliedTo : Meaning → ScriptDid → List ℕ → Type 0
RepliedTo m did bytes = SentWhole did.output (texts m (ended_lines bytes))

-- it ended as defined for some script that it may have been given, with the text whole
abbrev pub ScriptEndsAs : Meaning → ScriptDid → Status → Type 0
ScriptEndsAs m did status =
    (script : List ℕ) × MayBe did.input.before.left script × ((defined_script m script).status ≡ status) × SentWhole did.output (defined_script m script).text

-- a read failed behind these bytes, in which no `quit` ended: the lines that ended in them were answered, and no other
pub record ReadSoFar (m : Meaning) (did : ScriptDid) : Type 0 where
  pub bytes : List ℕ
  pub read : Consumes did.input.before.left did.input.after.left bytes
  pub within : length bytes ≤ script_limit
  pub unquit : m.over (ended_lines bytes) ≡ false
  pub replied : RepliedTo m did bytes

-- whole replies to the first of the lines that are answered, of a script that it may have been given
pub record RepliedFirst (m : Meaning) (did : ScriptDid) : Type 0 where
  pub script : List ℕ
  pub read : MayBe did.input.before.left script
  pub count : ℕ
  pub replied : SentWhole did.output (texts m (take count (answered_lines script)))

-- it was read, and nothing is left of it
abbrev pub ReadToEnd : ScriptDid → Type 0
ReadToEnd did = (bytes : List ℕ) × Consumes did.input.before.left did.input.after.left bytes × IsAtEnd did.input.after.left

-- the most bytes that are asked for at once
abbrev pub piece_limit : ℕ
piece_limit = 4096

-- it was read as far as the piece in which `quit` ended: in what was read before, none did
pub record ReadToQuit (m : Meaning) (did : ScriptDid) : Type 0 where
  pub earlier : List ℕ
  pub piece : List ℕ
  pub read : Consumes did.input.before.left did.input.after.left (earlier ++ piece)
  pub short : length piece ≤ piece_limit
  pub unquit : m.over (ended_lines earlier) ≡ false
  pub quit : m.over (ended_lines (earlier ++ piece)) ≡ true

abbrev pub ReadThrough : Meaning → ScriptDid → Type 0
ReadThrough m did = ReadToEnd did ⊎ ReadToQuit m did

abbrev pub ScriptEnds : Meaning → ScriptDid → Status → Type 0
ScriptEnds m did Done = ScriptEndsAs m did Done × ReadThrough m did
ScriptEnds m did ScriptTooLong = ScriptEndsAs m did ScriptTooLong
ScriptEnds m did ReadFault = SourceFailed did.input × ReadSoFar m did
ScriptEnds m did WriteFault = SinkFailed did.output × ((script : List ℕ) × MayBe did.input.before.left script × SentPart did.output (defined_script m script).text)
ScriptEnds m did NoMemory = RepliedFirst m did
ScriptEnds m did other = ⊥

-- ---- a script that a text stands before

-- what it did from there on, where the sink had taken this
abbrev pub did_behind : ScriptDid → Option (List ℕ) → ScriptDid
did_behind did taken = record { input = did.input; output = record { before = record did.output.before { taken = taken }; after = did.output.after } }

-- nothing of it was read
abbrev pub UnreadScript : ScriptDid → Type 0
UnreadScript did = (did.input.after.left ≡ did.input.before.left) × (did.input.after.faults ≡ did.input.before.faults)

-- the text was written whole, and then it ended so
abbrev pub EndsBehind : Meaning → List ℕ → ScriptDid → Status → Type 0
EndsBehind m front did status = (taken : Option (List ℕ)) × (Appends did.output.before.taken taken front × ScriptEnds m (did_behind did taken) status)

-- it wasn't begun: the text wasn't written whole, or for want of memory nothing was
abbrev pub EndsBefore : List ℕ → ScriptDid → Status → Type 0
EndsBefore front did WriteFault = SinkFailed did.output × SentPart did.output front × UnreadScript did
EndsBefore front did NoMemory = SentNothing did.output × UnreadScript did
EndsBefore front did other = ⊥

-- the status of a script that ends behind its last line
abbrev pub ending_of : Progress → Status
ending_of More = Done
ending_of Over = Done
ending_of Unwritten = WriteFault
ending_of OutOfMemory = NoMemory

-- ---- where a script leaves the answers

-- it ended behind its last line: for some script that it may have been given, these are the answers that stand behind it
abbrev pub LeavesAnswers : Meaning → Option (List ℕ) → Answered → Status → Type 0
LeavesAnswers m left answers Done =
    (script : List ℕ) × MayBe left script × ((defined_script m script).status ≡ Done) × (m.answers (answered_lines script) ≡ answers)
LeavesAnswers m left answers other = Unit {0}
