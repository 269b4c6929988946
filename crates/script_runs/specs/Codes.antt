-- The exit status of each ending, and its name.
use Rattle.std.specs.Prelude.{ℕ, List, codes}
use Rattle.script_runs.specs.declared.status.Status.{Status}
use Rattle.script_runs.specs.declared.status.Status.TheVariants.{Done, DictionaryRefused, Usage, FetchFault, ReadFault, WriteFault, ScriptTooLong, NoMemory, SavedRefused}

abbrev pub code_of : Status → ℕ
code_of Done = 0
code_of DictionaryRefused = 1
code_of Usage = 2
code_of FetchFault = 3
code_of ReadFault = 4
code_of WriteFault = 5
code_of ScriptTooLong = 6
code_of NoMemory = 7
code_of SavedRefused = 8

abbrev pub name_of : Status → List ℕ
name_of Done = codes "Done"
name_of DictionaryRefused = codes "DictionaryRefused"
name_of Usage = codes "Usage"
name_of FetchFault = codes "FetchFault"
name_of ReadFault = codes "ReadFault"
name_of WriteFault = codes "WriteFault"
name_of ScriptTooLong = codes "ScriptTooLong"
name_of NoMemory = codes "NoMemory"
name_of SavedRefused = codes "SavedRefused"
