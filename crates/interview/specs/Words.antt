-- The words of the command line, and the forms that they may have.
use Rattle.std.specs.Prelude.{◌≡◌, ◌⊎◌, ℕ, ◌≤◌, List, [], ◌∷◌, map, codes, decimal, Some, String, string_bytes}
use Rattle.tax_2023.specs.Years.{year_of_word}
use Rattle.std.specs.declared.alloc.Global.{Global}
use Rattle.built_in.specs.declared.built_in.BuiltIn.{BuiltIn}
use Rattle.built_in.specs.declared.built_in.BuiltIn.TheVariants.{Year, Income}
use Rattle.built_in.specs.BuiltIns.{program_income_of}
use Rattle.script_runs.specs.declared.mode.Mode.{Mode}
use Rattle.script_runs.specs.declared.mode.Mode.TheVariants.{Incremental, Plain, Desk}
use Rattle.interview.specs.declared.words.Form.{Form}
use Rattle.interview.specs.declared.words.Form.TheVariants.{Run, Check, Gen, Save, Unknown}
use Rattle.fg_io.specs.Outside.{Files, Input}
use Rattle.dictionary.specs.AcceptedParts.{Named}
use Rattle.interview_ends.specs.Given.{Given, given_with}
use Rattle.interview_ends.specs.Origins.{Origin, file, program, Beginning, unanswered, by_load, by_carry, origin_of, beginning_of}

-- ---- a run

-- the words run a script over a dictionary that the program brings: that of a year, and that of an income that it has words for
abbrev pub AreFor : List (List ℕ) → BuiltIn → Type 0
AreFor words (Year y) = (word : List ℕ) × (words ≡ codes "year" ∷ word ∷ []) × (year_of_word word ≡ Some y)
AreFor words (Income y) = (word : List ℕ) × (words ≡ codes "income" ∷ word ∷ []) × (program_income_of word ≡ Some y)

-- the words carry the saved text to a dictionary that the program brings: to that of a year alone
abbrev pub AreCarriedTo : List (List ℕ) → BuiltIn → List ℕ → Type 0
AreCarriedTo words (Year y) saved = (word : List ℕ) × (words ≡ codes "carry-year" ∷ word ∷ saved ∷ []) × (year_of_word word ≡ Some y)
AreCarriedTo words (Income y) saved = ⊥

-- The words run a script over the dictionary from there, from these answers, in this mode: for a file `run`, `run-plain`, `desk`,
-- `load` or `carry` and its name. Over what the program brings, and from a saved text, runs a session over the incremental engine
-- alone.
abbrev pub IsRunOver : List (List ℕ) → Origin → Beginning → Mode → Type 0
IsRunOver words (file name) unanswered Incremental = words ≡ codes "run" ∷ name ∷ []
IsRunOver words (file name) unanswered Plain = words ≡ codes "run-plain" ∷ name ∷ []
IsRunOver words (file name) unanswered Desk = words ≡ codes "desk" ∷ name ∷ []
IsRunOver words (file name) (by_load saved) Incremental = words ≡ codes "load" ∷ name ∷ saved ∷ []
IsRunOver words (file name) (by_carry saved) Incremental = words ≡ codes "carry" ∷ name ∷ saved ∷ []
IsRunOver words (program b) unanswered Incremental = AreFor words b
IsRunOver words (program b) (by_carry saved) Incremental = AreCarriedTo words b saved
IsRunOver words origin beginning mode = ⊥

-- the words run a script over the dictionary from there
pub record IsRun (words : List (List ℕ)) (origin : Origin) : Type 0 where
  pub beginning : Beginning
  pub mode : Mode
  pub over : IsRunOver words origin beginning mode

-- the saved text has this name
abbrev pub IsFrom : Beginning → List ℕ → Type 0
IsFrom unanswered name = ⊥
IsFrom (by_load saved) name = saved ≡ name
IsFrom (by_carry saved) name = saved ≡ name

-- ---- a check

-- the words are `check` and this name
abbrev pub IsCheck : List (List ℕ) → List ℕ → Type 0
IsCheck words name = words ≡ codes "check" ∷ name ∷ []

-- ---- a load

-- the words are `gen` and this number of sums, from 1 to 1,000, in decimal
pub record IsGen (words : List (List ℕ)) (n : ℕ) : Type 0 where
  pub some : 1 ≤ n
  pub most : n ≤ 1000
  pub spelled : words ≡ codes "gen" ∷ decimal n ∷ []

-- ---- a save

-- The words run a script over the dictionary from there, and save the answers that stand at its end. Of what the program brings,
-- the dictionaries of the years alone have words of a save.
abbrev pub IsSave : List (List ℕ) → Origin → Type 0
IsSave words (file name) = words ≡ codes "save" ∷ name ∷ []
IsSave words (program (Year y)) = (word : List ℕ) × (words ≡ codes "save-year" ∷ word ∷ []) × (year_of_word word ≡ Some y)
IsSave words (program (Income y)) = ⊥

-- ---- all words

-- a dictionary is fetched for the words of a run or of a check, by this name
abbrev pub Fetches : List (List ℕ) → List ℕ → Type 0
Fetches words name = IsRun words (file name) ⊎ IsCheck words name

-- the words are no others than these
abbrev pub HasNoForm : List (List ℕ) → Type 0
HasNoForm words = ((origin : Origin) → IsRun words origin → ⊥) × ((name : List ℕ) → IsCheck words name → ⊥) × ((n : ℕ) → IsGen words n → ⊥) × ((origin : Origin) → IsSave words origin → ⊥)

abbrev pub IsForm : List (List ℕ) → Form → Type 0
IsForm words (Run mode origin beginning) = IsRunOver words (origin_of origin) (beginning_of beginning) mode
IsForm words (Check name) = IsCheck words name.now
IsForm words (Gen n) = IsGen words n
IsForm words (Save origin) = IsSave words (origin_of origin)
IsForm words Unknown = HasNoForm words

abbrev pub texts : List (String Global) → List (List ℕ)
texts words = map string_bytes words

abbrev pub given_by : List (String Global) → List Named → List Named → Files → Input → Given
given_by words checks relations files source = given_with (texts words) checks relations files source
