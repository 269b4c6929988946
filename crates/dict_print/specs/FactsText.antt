-- The facts of a dictionary as lines.
use Rattle.std.specs.Prelude.{ℕ, List, [], ◌∷◌, ◌++◌, codes, Option, Some, None}
use Rattle.dict_source.specs.Tree.{Source}
use Rattle.dict_source.specs.Facts.{Fact}
use Rattle.fact_json.specs.FactJson.{stated_text}
use Rattle.dict_source.specs.Dictionary.{Dictionary}

-- a fact with a main expression is derived, and another is writable
abbrev pub kind_text : Option Source → List ℕ
kind_text None = codes " writable "
kind_text (Some main) = codes " derived "

-- `PATH writable TYPE` or `PATH derived TYPE`, each text as it is written, and a newline
abbrev pub fact_line : Fact → List ℕ
fact_line f = f.path_text ++ (kind_text f.main ++ (stated_text f.stated ++ codes "\n"))

abbrev pub lines_of : List Fact → List ℕ
lines_of [] = []
lines_of (f ∷ fs) = fact_line f ++ lines_of fs

-- a line for each fact, in their order
abbrev pub facts_text : Dictionary → List ℕ
facts_text d = lines_of d.facts
