-- The numbers of facts, kept by the texts of their paths without the first slash.
use Rattle.std.specs.Prelude.{◌≡◌, ℕ, Bool, ◌&&◌, List, [], ◌∷◌, ◌++◌, map, codes, bytes_eq, string_bytes, Option, is_some, unwrap_or, if◌then◌else◌, String}
use Rattle.std.specs.Map.{lookup}
use Rattle.std.specs.declared.alloc.Global.{Global}
use Rattle.fact_paths.specs.Cuts.{after}
use Rattle.fact_paths.specs.declared.fact_path.FactPath.{FactPath}
use Rattle.fact_paths.specs.declared.fact_path.FactPath.TheVariants as paths
use Rattle.dict_source.specs.Facts.{Fact}
use Rattle.dict_source.specs.Dictionary.{number_from}

-- a text and its number
abbrev pub Entry : Type 0
Entry = List ℕ × ℕ

abbrev pub entries_of : List (String Global × ℕ) → List Entry
entries_of es = map (λ e. (string_bytes e.0, e.1)) es

-- the number that is kept under the text
abbrev pub place_of : List ℕ → List Entry → Option ℕ
place_of text entries = lookup (λ key. bytes_eq text key) entries

-- with the number under the text, where none is kept there yet
abbrev pub noted : List Entry → List ℕ → ℕ → List Entry
noted entries text n = if is_some (place_of text entries) then entries else entries ++ (text, n) ∷ []

-- a text without its first slash
abbrev pub key_of : List ℕ → List ℕ
key_of text = unwrap_or (after (codes "/") text) text

-- the same of the text of a path: `N`, and `N/*/M`
abbrev pub path_key : FactPath → List ℕ
path_key (paths.Global n) = n
path_key (paths.Member n m) = n ++ (codes "/*/" ++ m)

-- with the number of a fact, where the fact has a path
abbrev pub fact_noted : List Entry → Fact → ℕ → List Entry
fact_noted entries f n = if is_some f.path then noted entries (key_of f.path_text) n else entries

-- the text, behind a slash, spells the fact's path
abbrev pub is_spelled : List ℕ → Fact → Bool
is_spelled text f = is_some f.path && bytes_eq text (key_of f.path_text)

-- the number kept under each text is that of the first fact whose path it spells
abbrev pub IsIndex : List Fact → List Entry → Type 0
IsIndex facts entries = (text : List ℕ) → place_of text entries ≡ number_from (is_spelled text) 1 facts
