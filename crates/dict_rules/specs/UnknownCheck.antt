-- A limit that names no check of the table.
use Rattle.std.specs.Prelude.{ℕ, Bool, false, List, Option, is_none}
use Rattle.std.specs.List.{list_any}
use Rattle.text_checks.specs.Places.{place_of}
use Rattle.dict_source.specs.Facts.{Bound, least, greatest, max_length, check, Fact}

-- the place of the check with this name among the names of checks, from 0
abbrev pub check_place : List (List ℕ) → List ℕ → Option ℕ
check_place names name = place_of names (λ n. n) name

abbrev pub is_unknown_check : List (List ℕ) → Bound → Bool
is_unknown_check names (least text) = false
is_unknown_check names (greatest text) = false
is_unknown_check names (max_length text) = false
is_unknown_check names (check name) = is_none (check_place names name)

-- one of its limits names no check
abbrev pub has_unknown_check : List (List ℕ) → Fact → Bool
has_unknown_check names f = list_any (is_unknown_check names) f.limits
