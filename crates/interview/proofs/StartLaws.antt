-- A script that begins behind a text already put: what was written and read, seen from after that text.
use Rattle.std.proofs.Common.{◌≡◌, ℕ, ◌≤◌, List, [], ◌++◌, Option, inl, inr, subst}
use Rattle.interview_ends.specs.Given.{Did}
use Rattle.std.specs.Io.KnownBytes.{Appends, Keeps}
use Rattle.std.proofs.KnownBytes.{Keeps-refl}
use Rattle.answers.specs.Answered.{Answered}
use Rattle.answers.specs.Meaning.{answered}
use Rattle.dictionary.specs.AcceptedParts.{Named}
use Rattle.fg_io.specs.Outside.{Contents, Output}
use Rattle.fg_io.specs.Sent.{Sent}
use Rattle.fg_io.specs.Writing.{WrotePart}
use Rattle.fg_io.proofs.SentLaws.{appends_more, rose_before, sent_on, sent_whole, whole_sent}
use Rattle.graph_session.specs.Rules.{Rules}
use Rattle.script_lines.specs.Joined.{joined}
use Rattle.script_runs.specs.Meanings.{Meaning, meaning_of}
use Rattle.script_runs.specs.declared.status.Status.{Status}
use Rattle.script_runs.specs.declared.status.Status.TheVariants.{Done, ReadFault, WriteFault, ScriptTooLong, NoMemory}
use Rattle.script_runs.specs.Devices.{BeforeAfter, SentPart, SentWhole}
use Rattle.script_runs.specs.ScriptEnds.{ReadThrough, ScriptDid, ScriptEnds, UnreadScript, did_behind}
use Rattle.interview_ends.specs.StepEnds.{Gives, ResumedAs, RunEnds, StartEnds}
use Rattle.interview_ends.specs.declared.resuming.Ready.{Ready}
use Rattle.interview_ends.specs.declared.resuming.Resumed.TheVariants as resumed
use Rattle.script_runs.specs.declared.mode.Mode.{Mode}
use Rattle.interview_ends.specs.Origins.{Beginning}

-- ---- what the sink took in all

-- from there on
abbrev pub taken_from : BeforeAfter Output → Option (List ℕ) → BeforeAfter Output
taken_from output taken = record { before = record output.before { taken = taken }; after = output.after }

pub whole_behind : (output : BeforeAfter Output) (taken : Option (List ℕ)) (front text : List ℕ) → Appends output.before.taken taken front → SentWhole (taken_from output taken) text → SentWhole output (front ++ text)
whole_behind output taken front text first second = appends_more output.before.taken taken output.after.taken front text first second

pub part_behind : (output : BeforeAfter Output) (taken : Option (List ℕ)) (front text : List ℕ) → Appends output.before.taken taken front → SentPart (taken_from output taken) text → SentPart output (front ++ text)
part_behind output taken front text first (rest, sent) =
    (rest, sent_on output.before.taken taken output.after.taken front text rest (whole_sent output.before.taken taken front first) sent)

-- what is read of the script is the same
pub read_behind : (m : Meaning) (did : ScriptDid) (now : Option (List ℕ)) → ReadThrough m (did_behind did now) → ReadThrough m did
read_behind m did now (inl to_end) = inl to_end
read_behind m did now (inr to_quit) = inr (record { earlier = to_quit.earlier; piece = to_quit.piece; read = to_quit.read; short = to_quit.short; unquit = to_quit.unquit; quit = to_quit.quit })

-- ---- a script from a later state of the sink

abbrev pub from_sink : ScriptDid → Output → ScriptDid
from_sink did sink = record { input = did.input; output = record { before = sink; after = did.output.after } }

-- what is read is the same
read_same : (m : Meaning) (did : ScriptDid) (sink : Output) → ReadThrough m (from_sink did sink) → ReadThrough m (did_behind did sink.taken)
read_same m did sink (inl to_end) = inl to_end
read_same m did sink (inr to_quit) = inr (record { earlier = to_quit.earlier; piece = to_quit.piece; read = to_quit.read; short = to_quit.short; unquit = to_quit.unquit; quit = to_quit.quit })

counts_before : (m : Meaning) (did : ScriptDid) (sink : Output) (status : Status) → did.output.before.faults ≤ sink.faults → ScriptEnds m (from_sink did sink) status → ScriptEnds m (did_behind did sink.taken) status
counts_before m did sink Done later ends = (ends.0, read_same m did sink ends.1)
counts_before m did sink ReadFault later ends = (ends.0, record { bytes = ends.1.bytes; read = ends.1.read; within = ends.1.within; unquit = ends.1.unquit; replied = ends.1.replied })
counts_before m did sink WriteFault later ends = (rose_before did.output.before.faults sink.faults did.output.after.faults later ends.0, ends.1)
counts_before m did sink ScriptTooLong later ends = ends
counts_before m did sink NoMemory later ends = record { script = ends.script; read = ends.read; count = ends.count; replied = ends.replied }
counts_before m did sink status later ends = absurd ends

-- ---- how it ends

module _ (m : Meaning) (front : List ℕ) (did : ScriptDid) where
  -- the text was written whole
  pub ends_behind : (sink : Output) (status : Status) → Sent did.output.before.taken sink.taken front [] → did.output.before.faults ≤ sink.faults → ScriptEnds m (from_sink did sink) status → StartEnds m front did status
  ends_behind sink status sent later ends = inl (sink.taken, (sent_all, counts_before m did sink status later ends))
    where
      sent_all : Appends did.output.before.taken sink.taken front
      sent_all = sent_whole did.output.before.taken sink.taken front sent

  -- a part of it was
  pub ends_before : WrotePart did.output.before did.output.after front → UnreadScript did → StartEnds m front did WriteFault
  ends_before part unread = inr (part.rose, part.part, unread)

  -- nothing was
  pub ends_without : did.output.before.taken ≡ did.output.after.taken → UnreadScript did → StartEnds m front did NoMemory
  ends_without still unread = inr (subst (Keeps did.output.before.taken) still (Keeps-refl did.output.before.taken), unread)

-- ---- how a run ends that began

module _ (contents : List ℕ → Contents) (b : Beginning) (r : Rules) (mode : Mode) (relations : List Named) (did : Did) where
  pub begins_and_ends : (ready : Ready) (status : Status) → ResumedAs contents b r (resumed.Begins ready)
      → ((front : List (List ℕ)) → Gives ready.dropped front → StartEnds (meaning_of r mode relations (answered ready.answers)) (joined front) did.script status) → RunEnds contents b r mode relations did status
  begins_and_ends ready status (basis, brought, (s, is, begun)) ends =
      inl (basis, brought, (s, is, subst (λ (a : Answered). StartEnds (meaning_of r mode relations a) (joined s.front) did.script status) begun.answers (ends s.front begun.front)))
