-- What an interview is given, and what it did to the outside.
use Rattle.std.specs.Prelude.{◌≡◌, ◌⊎◌, ℕ, List, [], ◌∷◌, Option}
use Rattle.fg_io.specs.Outside.{Contents, Files, Input, Output}
use Rattle.dictionary.specs.AcceptedParts.{Named}
use Rattle.script_runs.specs.declared.status.Status.{Status}
use Rattle.script_runs.specs.Devices.{BeforeAfter, SentWhole}
use Rattle.script_runs.specs.DefinedScript.{Defined}
use Rattle.script_runs.specs.ScriptEnds.{ScriptDid, UnreadScript, script_did}

-- what an interview is given
pub record Given : Type 0 where
  pub words : List (List ℕ)
  -- the checks that a dictionary may name
  pub checks : List Named
  -- the relations by which slots may be watched
  pub relations : List Named
  pub contents : List ℕ → Contents
  pub left : Option (List ℕ)

-- what an interview did to the outside
pub record Did : Type 0 where
  pub files : BeforeAfter Files
  pub script : ScriptDid

abbrev pub given_with : List (List ℕ) → List Named → List Named → Files → Input → Given
given_with words checks relations files source =
    record { words = words; checks = checks; relations = relations; contents = files.contents; left = source.left }

abbrev pub did_by : Files → Files → Input → Input → Output → Output → Did
did_by files files_now source source_now sink sink_now =
    record { files = record { before = files; after = files_now }; script = script_did source source_now sink sink_now }

-- nothing was read of the script
abbrev pub Unread : Did → Type 0
Unread did = UnreadScript did.script

abbrev pub IsOneOf : Status → List Status → Type 0
IsOneOf status [] = ⊥
IsOneOf status (s ∷ ss) = (status ≡ s) ⊎ IsOneOf status ss

-- it ended as defined, with the text whole
abbrev pub EndedAs : Did → Status → Defined → Type 0
EndedAs did status d = (status ≡ d.status) × SentWhole did.script.output d.text
