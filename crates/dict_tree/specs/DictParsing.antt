-- Reading a dictionary from its JSON value, or the first fault.
use Rattle.std.specs.Prelude.{◌≡◌, ℕ, ◌+◌, ◌≤◌, ◌<◌, ◌&&◌, List, [], ◌∷◌, length, map, nat_lt, codes, Option, Some, None, option_map, option_and_then, Result, Ok, Err, if◌then◌else◌}
use Rattle.std.specs.Str.{IsUtf8}
use Rattle.serde_json.specs.Data.{Data, Items, no_items, item, Members}
use Rattle.serde_json.specs.Find.{as_str, as_array, as_object, get}
use Rattle.serde_json.specs.Read.{read}
use Rattle.fact_paths.specs.Parsing.{name_of}
use Rattle.value_text.specs.Enums.{Listed, are_distinct, names_of}
use Rattle.dict_source.specs.Tables.{LookupTable}
use Rattle.dict_tree.specs.TableParsing.{tables_in}
use Rattle.dict_source.specs.Facts.{Fact, fact_view}
use Rattle.fact_json.specs.FactParsing.{has_no_other, text_at, is_optional_text, fact_of}
use Rattle.dict_source.specs.Dictionary.{Dictionary, too_many, too_deep}
use Rattle.fact_json.specs.Versions.{version_of}
use Rattle.dict_tree.specs.DictJson.{enum_keys, top_keys, ValueGives}
use Rattle.dict_tree.specs.declared.dict_json.Found.{Found}
use Rattle.dict_tree.specs.declared.enums_json.EnumSource.{EnumSource}
use Rattle.dict_tree.specs.declared.fault.TreeFault.{TreeFault}
use Rattle.dict_tree.specs.declared.fault.TreeFault.TheVariants as faults
use Rattle.fact_json.specs.declared.version.Version.{Version}

-- ---- enums

abbrev pub listed_view : EnumSource → Listed
listed_view e = record { name = e.name; options = e.options.items }

abbrev pub name_list : Items → Option (List (List ℕ))
name_list no_items = Some []
name_list (item d ds) = option_and_then (λ n. option_map (λ ns. n ∷ ns) (name_list ds)) (option_and_then name_of (as_str d))

-- one or more distinct options
abbrev pub if_sound : Listed → Option Listed
if_sound e = if nat_lt 0 (length e.options) && are_distinct e.options then Some e else None

abbrev pub named_options : List ℕ → List (List ℕ) → Listed
named_options name options = record { name = name; options = options }

abbrev pub enum_fields : Data → Option Listed
enum_fields d = option_and_then (λ name. option_map (named_options name) (option_and_then name_list (option_and_then as_array (get (codes "options") d)))) (option_and_then name_of (text_at (codes "name") d))

abbrev pub enum_with : Data → Members → Option Listed
enum_with d members = if has_no_other enum_keys members then option_and_then if_sound (enum_fields d) else None

abbrev pub enum_of : Data → Option Listed
enum_of d = option_and_then (enum_with d) (as_object d)

abbrev pub enum_list : Items → Option (List Listed)
enum_list no_items = Some []
enum_list (item d ds) = option_and_then (λ e. option_map (λ es. e ∷ es) (enum_list ds)) (enum_of d)

-- each under a name of its own
abbrev pub if_apart : List Listed → Option (List Listed)
if_apart es = if are_distinct (names_of es) then Some es else None

-- none where there is no such member
abbrev pub enums_in : Option Data → Option (List Listed)
enums_in None = Some []
enums_in (Some d) = option_and_then if_apart (option_and_then enum_list (as_array d))

-- ---- results with a fault

-- what a function returned, seen by view, is what reading gives; want of memory says nothing
abbrev pub Yields : {X Y : Type 0} → (X → Y) → Result X TreeFault → Result Y TreeFault → Type 0
Yields view (Ok x) read = read ≡ Ok (view x)
Yields view (Err faults.TooLong) read = read ≡ Err faults.TooLong
Yields view (Err faults.NotJson) read = read ≡ Err faults.NotJson
Yields view (Err (faults.Shape n)) read = read ≡ Err (faults.Shape n)
Yields view (Err (faults.TooMany n)) read = read ≡ Err (faults.TooMany n)
Yields view (Err (faults.TooDeep n)) read = read ≡ Err (faults.TooDeep n)
Yields view (Err faults.NoMemory) read = Unit {0}

-- ---- facts in order, numbered from n

abbrev pub facts_step : ℕ → Option Fact → Result (List Fact) TreeFault → Result (List Fact) TreeFault
facts_step n None rest = Err (faults.Shape n)
facts_step n (Some f) (Ok fs) = Ok (f ∷ fs)
facts_step n (Some f) (Err e) = Err e

abbrev pub facts_of : Version → List LookupTable → ℕ → Items → Result (List Fact) TreeFault
facts_of version tables n no_items = Ok []
facts_of version tables n (item d ds) = facts_step n (fact_of version tables d) (facts_of version tables (n + 1) ds)

-- ---- the whole

-- the version, where it has these keys
abbrev pub if_top : Data → Members → Version → Option Version
if_top d members version = if has_no_other (top_keys version) members && is_optional_text (get (codes "description") d) then Some version else None

abbrev pub version_with : Data → Members → Option Version
version_with d members = option_and_then (if_top d members) (option_and_then version_of (text_at (codes "version") d))

abbrev pub version_in : Data → Option Version
version_in d = option_and_then (version_with d) (as_object d)

abbrev pub shallow : Dictionary → Option ℕ → Result Dictionary TreeFault
shallow d None = Ok d
shallow d (Some n) = Err (faults.TooDeep n)

abbrev pub few : Dictionary → Option ℕ → Result Dictionary TreeFault
few d None = shallow d (too_deep d)
few d (Some what) = Err (faults.TooMany what)

abbrev pub dictionary_with : List Listed → List LookupTable → List Fact → Dictionary
dictionary_with enums tables facts = record { enums = enums; tables = tables; facts = facts }

abbrev pub with_facts : List Listed → List LookupTable → Result (List Fact) TreeFault → Result Dictionary TreeFault
with_facts enums tables (Ok facts) = few (dictionary_with enums tables facts) (too_many (dictionary_with enums tables facts))
with_facts enums tables (Err e) = Err e

-- of the version, the lists, the tables and the facts, where each is there
abbrev pub from_parts : Option Version → Option (List Listed) → Option (List LookupTable) → Option Items → Result Dictionary TreeFault
from_parts (Some version) (Some enums) (Some tables) (Some items) = with_facts enums tables (facts_of version tables 1 items)
from_parts version enums tables items = Err (faults.Shape 0)

-- the tables over the lists of options that the value has
abbrev pub tables_over : Option (List Listed) → Data → Option (List LookupTable)
tables_over enums d = option_and_then (λ lists. tables_in lists (get (codes "tables") d)) enums

-- the dictionary that the value spells, or the first fault: the shape of all before the limits, and fact 0 first
unfoldable pub dictionary_of : Data → Result Dictionary TreeFault
dictionary_of d =
    from_parts (version_in d) (enums_in (get (codes "enums") d)) (tables_over (enums_in (get (codes "enums") d)) d) (option_and_then as_array (get (codes "facts") d))

-- ---- bytes

abbrev pub IsJson : List ℕ → Data → Type 0
IsJson bytes d = IsUtf8 bytes × (read bytes ≡ Some d)

abbrev pub max_bytes : ℕ
max_bytes = 8388608

-- what the value gives, where the bytes are a value
abbrev pub IsOfValue : List ℕ → Result Dictionary TreeFault → Type 0
IsOfValue bytes r = (length bytes ≤ max_bytes) × (d : Data) × IsJson bytes d × ValueGives d r

-- the dictionary of the bytes, or the first fault
abbrev pub BytesGive : List ℕ → Result Dictionary TreeFault → Type 0
BytesGive bytes (Ok dict) = IsOfValue bytes (Ok dict)
BytesGive bytes (Err faults.TooLong) = max_bytes < length bytes
BytesGive bytes (Err faults.NotJson) = (length bytes ≤ max_bytes) × ((d : Data) → IsJson bytes d → ⊥)
BytesGive bytes (Err (faults.Shape n)) = IsOfValue bytes (Err (faults.Shape n))
BytesGive bytes (Err (faults.TooMany n)) = IsOfValue bytes (Err (faults.TooMany n))
BytesGive bytes (Err (faults.TooDeep n)) = IsOfValue bytes (Err (faults.TooDeep n))
BytesGive bytes (Err faults.NoMemory) = Unit {0}

-- the JSON value of the bytes
abbrev pub BytesAre : {V : Type 0} → (V → Data) → List ℕ → Result V TreeFault → Type 0
BytesAre json bytes (Ok v) = IsJson bytes (json v)
BytesAre json bytes (Err faults.NotJson) = (d : Data) → IsJson bytes d → ⊥
BytesAre json bytes (Err faults.NoMemory) = Unit {0}
BytesAre json bytes (Err faults.TooLong) = ⊥
BytesAre json bytes (Err (faults.Shape n)) = ⊥
BytesAre json bytes (Err (faults.TooMany n)) = ⊥
BytesAre json bytes (Err (faults.TooDeep n)) = ⊥

abbrev pub seen : {X Y E : Type 0} → (X → Y) → Result X E → Result Y E
seen view (Ok x) = Ok (view x)
seen view (Err e) = Err e

-- the faults that a value gives
abbrev pub IsOfShape : TreeFault → Type 0
IsOfShape faults.TooLong = ⊥
IsOfShape faults.NotJson = ⊥
IsOfShape (faults.Shape n) = Unit {0}
IsOfShape (faults.TooMany n) = Unit {0}
IsOfShape (faults.TooDeep n) = Unit {0}
IsOfShape faults.NoMemory = Unit {0}

-- ---- what is read, before it is kept

abbrev pub read_view : Found → Dictionary
read_view r = record { enums = map listed_view r.enums.items; tables = r.tables.items; facts = map fact_view r.facts.items }
