-- A path that an earlier fact has.
use Rattle.std.specs.Prelude.{ℕ, Bool, false, nat_lt, Option, Some, None}
use Rattle.fact_paths.specs.declared.fact_path.FactPath.{FactPath}
use Rattle.dict_source.specs.Facts.{Fact}
use Rattle.dict_source.specs.Dictionary.{Dictionary}
use Rattle.dict_source.specs.Finding.{find_path}

abbrev pub is_before : ℕ → Option ℕ → Bool
is_before n None = false
is_before n (Some k) = nat_lt k n

abbrev pub is_taken : Dictionary → ℕ → Option FactPath → Bool
is_taken d n None = false
is_taken d n (Some path) = is_before n (find_path d.facts path)

-- the first fact with its path stands before it
abbrev pub is_duplicate : Dictionary → ℕ → Fact → Bool
is_duplicate d n f = is_taken d n f.path
