-- Reading a fact from its JSON value.
use Rattle.std.specs.Prelude.{ℕ, Bool, true, ◌&&◌, List, [], ◌∷◌, codes, Option, Some, None, is_some, option_map, option_and_then, if◌then◌else◌, bytes_eq}
use Rattle.std.specs.List.{list_any}
use Rattle.serde_json.specs.Data.{Data, Items, no_items, item, Members, no_members, member}
use Rattle.serde_json.specs.Find.{as_str, as_array, as_object, get}
use Rattle.fact_paths.specs.Parsing.{fact_path_of}
use Rattle.fact_json.specs.declared.limits_json.LimitName.{LimitName}
use Rattle.fact_json.specs.declared.limits_json.LimitName.TheVariants as names
use Rattle.dict_source.specs.Tree.{Source, SourceCase}
use Rattle.dict_source.specs.Tables.{LookupTable}
use Rattle.dict_source.specs.Facts.{Fact, Stated, Bound, least, greatest, max_length, check}
use Rattle.fact_json.specs.Names.{under_name}
use Rattle.fact_json.specs.Parsing.{two_texts, pair_tree, tree_of}
use Rattle.fact_json.specs.StatedParsing.{writable_stated, derived_stated}
use Rattle.fact_json.specs.Profile.{has_operators}
use Rattle.fact_json.specs.declared.version.Version.{Version}
use Rattle.fact_json.specs.declared.version.Version.TheVariants as versions

-- ---- members of an object

-- no key but these
abbrev pub has_no_other : List (List ℕ) → Members → Bool
has_no_other keys no_members = true
has_no_other keys (member key d members) = list_any (bytes_eq key) keys && has_no_other keys members

-- the text under the key
abbrev pub text_at : List ℕ → Data → Option (List ℕ)
text_at key d = option_and_then as_str (get key d)

-- nothing, or a text
abbrev pub is_optional_text : Option Data → Bool
is_optional_text None = true
is_optional_text (Some d) = is_some (as_str d)

-- the text, where there is such a member
abbrev pub text_in : Option Data → Option (Option (List ℕ))
text_in None = Some None
text_in (Some d) = option_map (λ t. Some t) (as_str d)

-- ---- limits

-- `["Min",T]`, `["Max",T]`, `["MaxLength",T]` or `["Check",T]`
abbrev pub limit_names : List (List ℕ × LimitName)
limit_names = (codes "Min", names.Min) ∷ (codes "Max", names.Max) ∷ (codes "MaxLength", names.MaxLength) ∷ (codes "Check", names.Check) ∷ []

abbrev pub limit_name : List ℕ → Option LimitName
limit_name name = under_name name limit_names

abbrev pub bound_under : LimitName → List ℕ → Bound
bound_under names.Min text = least text
bound_under names.Max text = greatest text
bound_under names.MaxLength text = max_length text
bound_under names.Check text = check text

abbrev pub limit_of : Data → Option Bound
limit_of d = option_and_then (λ p. option_map (λ name. bound_under name p.1) (limit_name p.0)) (option_and_then two_texts (as_array d))

abbrev pub limit_list : Items → Option (List Bound)
limit_list no_items = Some []
limit_list (item d ds) = option_and_then (λ l. option_map (λ ls. l ∷ ls) (limit_list ds)) (limit_of d)

-- none where there is no such member
abbrev pub limits_in : Option Data → Option (List Bound)
limits_in None = Some []
limits_in (Some d) = option_and_then limit_list (as_array d)

-- ---- expressions of a fact

-- an expression
abbrev pub main_in : List LookupTable → Option Data → Option (Option Source)
main_in tables o = option_map (λ t. Some t) (option_and_then (tree_of tables) o)

-- an expression, where there is such a member
abbrev pub tree_in : List LookupTable → Option Data → Option (Option Source)
tree_in tables None = Some None
tree_in tables (Some d) = option_map (λ t. Some t) (tree_of tables d)

-- `[C,V]`, where there is such a member
abbrev pub conditional_in : List LookupTable → Option Data → Option (Option SourceCase)
conditional_in tables None = Some None
conditional_in tables (Some d) = option_map (λ c. Some c) (option_and_then (pair_tree tables) (as_array d))

-- ---- facts

abbrev pub writable_keys : List (List ℕ)
writable_keys = codes "path" ∷ codes "writable" ∷ codes "limits" ∷ codes "placeholder" ∷ codes "description" ∷ []

-- only from version 2 on a fact may have a conditional
abbrev pub derived_keys : Version → List (List ℕ)
derived_keys versions.First = codes "path" ∷ codes "derived" ∷ codes "is" ∷ codes "placeholder" ∷ codes "description" ∷ []
derived_keys _ = codes "path" ∷ codes "derived" ∷ codes "is" ∷ codes "placeholder" ∷ codes "description" ∷ codes "conditional" ∷ []

-- the fact of these parts, where each is there
abbrev pub fact_from : Option (List ℕ) → Option (List Bound) → Option (Option Source) → Option (Option SourceCase) → Option (Option Source) → Option Stated → Option (Option (List ℕ)) → Option Fact
fact_from (Some text) (Some limits) (Some main) (Some conditional) (Some placeholder) (Some stated) (Some description) =
    Some (record { path_text = text; path = fact_path_of text; stated = stated; limits = limits; main = main; conditional = conditional; placeholder = placeholder; description = description })
fact_from text limits main conditional placeholder stated description = None

unfoldable pub writable_fact : List LookupTable → Data → Option Fact
writable_fact tables d = fact_from (text_at (codes "path") d) (limits_in (get (codes "limits") d)) (Some None) (Some None) (tree_in tables (get (codes "placeholder") d)) (option_and_then writable_stated (text_at (codes "writable") d)) (text_in (get (codes "description") d))

unfoldable pub derived_fact : List LookupTable → Data → Option Fact
derived_fact tables d = fact_from (text_at (codes "path") d) (Some []) (main_in tables (get (codes "is") d)) (conditional_in tables (get (codes "conditional") d)) (tree_in tables (get (codes "placeholder") d)) (option_and_then derived_stated (text_at (codes "derived") d)) (text_in (get (codes "description") d))

abbrev pub fact_with : Version → List LookupTable → Data → Members → Option Fact
fact_with version tables d members =
    if has_no_other writable_keys members then writable_fact tables d else (if has_no_other (derived_keys version) members then derived_fact tables d else None)

-- the fact, where the version has its operators
abbrev pub if_of_version : Version → Fact → Option Fact
if_of_version version f = if has_operators version f then Some f else None

-- the fact that the value spells in a dictionary of this version
abbrev pub fact_of : Version → List LookupTable → Data → Option Fact
fact_of version tables d = option_and_then (if_of_version version) (option_and_then (fact_with version tables d) (as_object d))
