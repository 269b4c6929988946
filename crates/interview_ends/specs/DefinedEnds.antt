-- What is to be written of a dictionary that is accepted or refused, and of a saved text that is refused, and the status with it.
use Rattle.std.specs.Prelude.{◌≡◌, ◌⊎◌, ℕ, List, length}
use Rattle.dictionary.specs.declared.fault.DictFault.{DictFault}
use Rattle.dict_meaning.specs.Accepted.{Accepted}
use Rattle.dictionary.specs.AcceptedParts.{Named, names_of}
use Rattle.dictionary.specs.Faults.{AreAccepted, IsFault}
use Rattle.dictionary.specs.Keeping.{node_count}
use Rattle.script_runs.specs.declared.status.Status.TheVariants.{Done, DictionaryRefused, SavedRefused}
use Rattle.interview_ends.specs.FaultLines.{accepted_line, fault_line, saved_refused_line}
use Rattle.script_runs.specs.DefinedScript.{Defined}

-- the line of a dictionary's first fault
abbrev pub defined_fault : DictFault → Defined
defined_fault fault = record { text = fault_line fault; status = DictionaryRefused }

-- the line of a saved text that is refused
abbrev pub defined_saved_refused : ℕ → Defined
defined_saved_refused n = record { text = saved_refused_line n; status = SavedRefused }

abbrev pub defined_accepted : Accepted → Defined
defined_accepted dict = record { text = accepted_line (length dict.tree.facts) (node_count dict.tree); status = Done }

-- what a check is to give over the bytes of a dictionary, with these checks of texts
abbrev pub ChecksTo : List ℕ → List Named → Defined → Type 0
ChecksTo bytes checks d =
    ((dict : Accepted) × AreAccepted bytes (names_of checks) dict × (d ≡ defined_accepted dict))
    ⊎ ((fault : DictFault) × IsFault bytes (names_of checks) fault × (d ≡ defined_fault fault))

-- a check comes to one text and one status at most
abbrev pub OneEndOfCheck : Type 0
OneEndOfCheck = (bytes : List ℕ) (checks : List Named) (d e : Defined) → ChecksTo bytes checks d → ChecksTo bytes checks e → d ≡ e
