-- Checks by name and code, and whether a dictionary names any.
use Rattle.std.specs.Prelude.{◌==◌, ◌&&◌, Bool, true, false, List, [], ◌∷◌, bytes_eq}
use Rattle.std.specs.List.{list_any}
use Rattle.dict_source.specs.Dictionary.{Dictionary as Tree}
use Rattle.dict_source.specs.Facts.{Bound, Fact, least, greatest, max_length, check}
use Rattle.dictionary.specs.AcceptedParts.{Named}

abbrev pub is_check : Bound → Bool
is_check (least text) = false
is_check (greatest text) = false
is_check (max_length text) = false
is_check (check name) = true

abbrev pub fact_has_check : Fact → Bool
fact_has_check f = list_any is_check f.limits

-- a limit of some fact is a check
abbrev pub has_check : Tree → Bool
has_check d = list_any fact_has_check d.facts

-- ---- lists of checks

abbrev pub same_named : Named → Named → Bool
same_named a b = bytes_eq a.0 b.0 && (a.1 == b.1)

-- the lists are equal
abbrev pub same_checks : List Named → List Named → Bool
same_checks [] [] = true
same_checks [] (b ∷ bs) = false
same_checks (a ∷ more) [] = false
same_checks (a ∷ more) (b ∷ bs) = same_named a b && same_checks more bs
