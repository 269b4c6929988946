-- A shelf in memory.
use Rattle.std.specs.Prelude.{◌≡◌, ◌⊎◌, refl, ℕ, List, map, Option, None, Some, Result, Ok, Err, Vec, String, string_bytes}
use Rattle.std.specs.BTreeMap.{BTreeMap}
use Rattle.std.specs.Cmp.Lexicographic.{slice_cmp}
use Rattle.std.specs.Coded.{Coded, code_by, coded×, coded_ℕ, coded_list}
use Rattle.std.specs.FinMap.{FinMap, code, get, from_entries}
use Rattle.std.specs.Ordering.{nat_cmp}
use Rattle.std.specs.declared.alloc.Global.{Global}
use Rattle.fg_io.specs.Calls.{Fails}
use Rattle.fg_io.specs.Outside.{Contents, Files, missing, holds, next_count}
use Rattle.fg_io.specs.declared.error.FetchFault.{FetchFault}
use Rattle.fg_io.specs.declared.error.FetchFault.TheVariants.{Failed, TooLong, NoMemory}

-- contents by name
abbrev pub NamedFiles : Type 0
NamedFiles = FinMap (slice_cmp nat_cmp) (List ℕ)

pub record ShelfState : Type 0 where
  pub files : NamedFiles
  -- the numbers of the calls that fail
  pub failing : List ℕ
  -- how many calls there were, and how many of them failed
  pub calls : ℕ
  pub faults : ℕ
  -- the name of the last call that failed
  pub failed_name : List ℕ

-- a shelf is stored as the tuple of its fields
abbrev pub shelf_code : Coded ShelfState
shelf_code = code_by (NamedFiles × (List ℕ × (ℕ × (ℕ × List ℕ)))) (coded× (code (coded_list coded_ℕ) (coded_list coded_ℕ)) (coded× (coded_list coded_ℕ) (coded× coded_ℕ (coded× coded_ℕ (coded_list coded_ℕ)))))
    (λ s. (s.files, (s.failing, (s.calls, (s.faults, s.failed_name)))))
    (λ p. record { files = p.0; failing = p.1.0; calls = p.1.1.0; faults = p.1.1.1.0; failed_name = p.1.1.1.1 })
    (λ _. refl)

-- the contents that a map keeps
abbrev pub files_of : BTreeMap (String Global) (Vec ℕ Global) → NamedFiles
files_of kept = from_entries (map {B = List ℕ × List ℕ} (λ e. (string_bytes e.0, e.1.items)) kept.entries)

-- what a name shows whose contents are these
abbrev pub contents_by : Option (List ℕ) → Contents
contents_by None = missing
contents_by (Some bytes) = holds bytes

abbrev pub contents_in : ShelfState → List ℕ → Contents
contents_in shelf name = contents_by (get shelf.files name)

-- what the shelf tells
abbrev pub files_shown : ShelfState → Files
files_shown shelf = record { contents = contents_in shelf; faults = shelf.faults; failed_name = shelf.failed_name }

-- after a fetch that didn't fail
abbrev pub after_answering : ShelfState → ShelfState
after_answering shelf = record shelf { calls = next_count shelf.calls }

-- after a fetch of this name that failed
abbrev pub after_failing : ShelfState → List ℕ → ShelfState
after_failing shelf name = record shelf { calls = next_count shelf.calls; faults = next_count shelf.faults; failed_name = name }

-- A fetch of this name ends so: it fails where its number is a failing one or the name isn't there, and nowhere else.
-- Where there was no memory it changed nothing, and wasn't counted.
abbrev pub FetchEnds : ShelfState → ShelfState → List ℕ → Result (Vec ℕ Global) FetchFault → Type 0
FetchEnds old new name (Ok v) = (¬ Fails old.failing old.calls) × (new ≡ after_answering old)
FetchEnds old new name (Err TooLong) = (¬ Fails old.failing old.calls) × (new ≡ after_answering old)
FetchEnds old new name (Err Failed) = (Fails old.failing old.calls ⊎ (get old.files name ≡ None)) × (new ≡ after_failing old name)
FetchEnds old new name (Err NoMemory) = new ≡ old
