-- How an interview ends for the word `gen`, and what is known of it when it ends.
use Rattle.std.specs.Prelude.{◌≡◌, ◌⊎◌, ℕ, [], ◌∷◌}
use Rattle.script_runs.specs.declared.status.Status.{Status}
use Rattle.script_runs.specs.declared.status.Status.TheVariants.{WriteFault, NoMemory}
use Rattle.script_runs.specs.Devices.{SentPart, SinkFailed}
use Rattle.interview_ends.specs.Given.{Did, EndedAs, Given, IsOneOf, Unread}
use Rattle.script_runs.specs.DefinedScript.{Defined}
use Rattle.interview_ends.specs.Load.{GeneratedAs, GensTo}
use Rattle.interview.specs.Words.{IsGen}

-- with so many sums, by the table of its ends, without the given script
abbrev pub GenEnds : Given → Did → Status → Type 0
GenEnds given did status = (n : ℕ) × IsGen given.words n × GeneratedAs given.relations n did.script.output status × Unread did

-- it ended as defined, with the text whole
abbrev pub EndedByGen : Given → ℕ → Did → Status → Type 0
EndedByGen given n did status = (d : Defined) × GensTo given.relations n d × EndedAs did status d

pub record GenInterviewed (given : Given) (did : Did) (status : Status) : Type 0 where
  -- nothing is read of the given script
  pub unread : (n : ℕ) → IsGen given.words n → Unread did
  -- it ends as defined, or by a fault of the sink, or for want of memory
  pub exact : (n : ℕ) → IsGen given.words n → EndedByGen given n did status ⊎ IsOneOf status (WriteFault ∷ NoMemory ∷ [])
  -- and where the sink doesn't fail, as defined, or for want of memory
  pub complete : (n : ℕ) → IsGen given.words n → (SinkFailed did.script.output → ⊥) → EndedByGen given n did status ⊎ (status ≡ NoMemory)
  -- whatever the status: what it wrote is a prefix of the defined text
  pub prefix : (n : ℕ) → IsGen given.words n → (d : Defined) → GensTo given.relations n d → SentPart did.script.output d.text
