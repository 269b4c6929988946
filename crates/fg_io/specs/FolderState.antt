-- What a shelf over a folder knows of itself.
use Rattle.std.specs.Prelude.{ℕ, List}
use Rattle.fg_io.specs.Outside.{ByFetch, FetchCause, Files, hidden}

pub record FolderState : Type 0 where
  -- how many fetches failed
  pub faults : ℕ
  -- the name of the last that did
  pub failed_name : List ℕ

-- it shows nothing of what a name holds
abbrev pub files_hidden : FolderState → Files
files_hidden folder = record { contents = λ name. hidden; faults = folder.faults; failed_name = folder.failed_name }

-- a fetch moves its count and the failed name alone
abbrev pub folder_fetched : {S K : Type 0} → ByFetch FolderState S K
folder_fetched folder script out name at_most answer folder_now = FetchCause name (files_hidden folder) (files_hidden folder_now) answer
