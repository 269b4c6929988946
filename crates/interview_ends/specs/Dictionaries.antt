-- The dictionary of a run: what it is judged by, and as what it is accepted.
use Rattle.std.specs.Prelude.{◌≡◌, ℕ, List, []}
use Rattle.fg_io.specs.Outside.{MayHold, Contents, holds}
use Rattle.dictionary.specs.declared.fault.DictFault.{DictFault}
use Rattle.dictionary.specs.AcceptedParts.{Named, names_of}
use Rattle.dictionary.specs.Faults.{AreAccepted, IsFault, IsFaultOf}
use Rattle.graph_session.specs.Rules.{Rules}
use Rattle.built_in.specs.BuiltIns.{IsBrought, facts_of}
use Rattle.built_in.specs.declared.built_in.BuiltIn.{BuiltIn}
use Rattle.interview_ends.specs.Origins.{Origin, file, program}

-- ---- what a dictionary is judged by

-- the bytes that spell it, or nothing, where the program brings it with it
pub data Content : Type 0 where
  spelled : List ℕ → Content
  brought : BuiltIn → Content

-- what may come from there: of a file what may be its contents
abbrev pub MayGive : (List ℕ → Contents) → Origin → Content → Type 0
MayGive contents (file name) (spelled bytes) = MayHold (contents name) bytes
MayGive contents (program b) (brought c) = b ≡ c
MayGive contents origin content = ⊥

-- what comes from there, where it is known
abbrev pub Gives : (List ℕ → Contents) → Origin → Content → Type 0
Gives contents (file name) (spelled bytes) = contents name ≡ holds bytes
Gives contents (program b) (brought c) = b ≡ c
Gives contents origin content = ⊥

-- ---- what comes of it

-- It has no fault, and these are the rules that a session goes by. What is spelled may name these checks, and what the program
-- brings names none.
abbrev pub IsAcceptedAs : List Named → Content → Rules → Type 0
IsAcceptedAs checks (spelled bytes) r = AreAccepted bytes (names_of checks) r.accepted × (r.checks ≡ checks)
IsAcceptedAs checks (brought b) r = IsBrought b r.accepted × (r.checks ≡ [])

-- its first fault
abbrev pub HasFault : List Named → Content → DictFault → Type 0
HasFault checks (spelled bytes) fault = IsFault bytes (names_of checks) fault
HasFault checks (brought b) fault = IsFaultOf (facts_of b) [] fault
