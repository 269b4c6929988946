-- Lists of options, and what may be added to them.
use Rattle.std.specs.Prelude.{◌≡◌, ◌≢◌, ℕ, ◌^◌, ◌<◌, Bool, true, not, ◌&&◌, ◌||◌, nat_lt, IsTrue, List, [], ◌∷◌, length, map, position, slice_get, bytes_eq, Option, option_map, option_and_then, Vec, String, string_bytes}
use Rattle.std.specs.List.{list_any, list_all}
use Rattle.std.specs.declared.alloc.Global.{Global}
use Rattle.fact_paths.specs.Names.{is_name}
use Rattle.value_text.specs.declared.enum_lists.ListFault.{ListFault}
use Rattle.value_text.specs.declared.enum_lists.ListFault.TheVariants.{Same, Empty, NoMemory}

-- a list of options under its own name
pub record Listed : Type 0 where
  pub name : List ℕ
  pub options : List (List ℕ)

-- ---- texts in a list of texts

-- the text stands among them
abbrev pub is_among : List ℕ → List (List ℕ) → Bool
is_among text texts = list_any (bytes_eq text) texts

-- none stands twice
abbrev pub are_distinct : List (List ℕ) → Bool
are_distinct [] = true
are_distinct (text ∷ rest) = not (is_among text rest) && are_distinct rest

-- the place of the text, from 0
abbrev pub place_in : List ℕ → List (List ℕ) → Option ℕ
place_in text texts = position (bytes_eq text) texts

-- ---- lists

abbrev pub names_of : List Listed → List (List ℕ)
names_of lists = map (λ listed. listed.name) lists

-- the place of the list with this name
abbrev pub list_place : List ℕ → List Listed → Option ℕ
list_place name lists = place_in name (names_of lists)

-- the name of the list at a place
abbrev pub name_at : List Listed → ℕ → Option (List ℕ)
name_at lists list = option_map (λ listed. listed.name) (slice_get lists list)

-- the options of the list at a place
abbrev pub options_at : List Listed → ℕ → Option (List (List ℕ))
options_at lists list = option_map (λ listed. listed.options) (slice_get lists list)

-- the option at a place of the list at a place
abbrev pub option_at : List Listed → ℕ → ℕ → Option (List ℕ)
option_at lists list place = option_and_then (λ options. slice_get options place) (options_at lists list)

-- the place of an option in the list at a place
abbrev pub option_place_in : List Listed → ℕ → List ℕ → Option ℕ
option_place_in lists list text = option_and_then (λ options. place_in text options) (options_at lists list)

-- one or more distinct names
abbrev pub are_options : List (List ℕ) → Bool
are_options options = nat_lt 0 (length options) && (list_all is_name options && are_distinct options)

-- such options, fewer than 2^32, under a name
abbrev pub is_listed : Listed → Bool
is_listed listed = nat_lt (length listed.options) 4294967296 && (is_name listed.name && are_options listed.options)

-- such lists, each under a name of its own
pub record AreLists (lists : List Listed) : Type 0 where
  pub few : length lists < 2 ^ 32
  pub distinct : IsTrue (are_distinct (names_of lists))
  pub listed : IsTrue (list_all is_listed lists)

-- ---- what may be added

-- the name is there, or an option stands twice
abbrev pub is_repeated : List Listed → Listed → Bool
is_repeated lists listed = is_among listed.name (names_of lists) || not (are_distinct listed.options)

-- why a list isn't added; want of memory says nothing
abbrev pub Refuses : List Listed → Listed → ListFault → Type 0
Refuses lists listed Same = IsTrue (is_repeated lists listed)
Refuses lists listed Empty = IsTrue (not (is_repeated lists listed)) × (listed.options ≡ [])
Refuses lists listed NoMemory = Unit {0}

-- neither holds of a list that is added
abbrev pub Accepts : List Listed → Listed → Type 0
Accepts lists listed = IsTrue (not (is_repeated lists listed)) × (listed.options ≢ [])

-- ---- how they are kept

abbrev pub lists_of : List (String Global × Vec (List ℕ) Global) → List Listed
lists_of entries = map (λ entry. record { name = string_bytes entry.0; options = entry.1.items }) entries
