-- What a fact is, as it is written, without where it lies in memory.
use Rattle.std.specs.Prelude.{ℕ, ◌+◌, ◌&&◌, nat_le, Bool, true, List, [], ◌++◌, map, string_bytes, Option, Some, None, option_map}
use Rattle.fact_paths.specs.declared.fact_path.FactPath.{FactPath}
use Rattle.fact_values.specs.declared.fact_type.FactType.{FactType}
use Rattle.dict_source.specs.Tree.{Use, Source, SourceCase, nodes, size, depth}
use Rattle.dict_source.specs.View.{use_view, view}
use Rattle.dict_source.specs.declared.fact_source.TypeText.{TypeText}
use Rattle.dict_source.specs.declared.fact_source.TypeText.TheVariants as texts
use Rattle.dict_source.specs.declared.fact_source.LimitText.{LimitText}
use Rattle.dict_source.specs.declared.fact_source.LimitText.TheVariants as limits
use Rattle.dict_source.specs.declared.fact_source.Conditional.{Conditional}
use Rattle.dict_source.specs.declared.fact_source.FactSource.{FactSource}

-- the type that a fact states
pub data Stated : Type 0 where
  scalar : FactType → Stated
  enum_of : List ℕ → Stated
  writable_list : Stated
  list_of : Use → Stated
  item_of : Use → Stated

-- a limit, by its text
pub data Bound : Type 0 where
  least : List ℕ → Bound
  greatest : List ℕ → Bound
  max_length : List ℕ → Bound
  check : List ℕ → Bound

-- a fact; the conditional is its condition and the value under it
pub record Fact : Type 0 where
  pub path_text : List ℕ
  pub path : Option FactPath
  pub stated : Stated
  pub limits : List Bound
  pub main : Option Source
  pub conditional : Option SourceCase
  pub placeholder : Option Source
  -- what it is, in words for people
  pub description : Option (List ℕ)

-- ---- views

abbrev pub stated_view : TypeText → Stated
stated_view (texts.Scalar t) = scalar t
stated_view (texts.EnumOf n) = enum_of n
stated_view texts.WritableList = writable_list
stated_view (texts.ListOf p) = list_of (use_view p)
stated_view (texts.ItemOf p) = item_of (use_view p)

abbrev pub limit_view : LimitText → Bound
limit_view (limits.Min s) = least (string_bytes s)
limit_view (limits.Max s) = greatest (string_bytes s)
limit_view (limits.MaxLength s) = max_length (string_bytes s)
limit_view (limits.Check s) = check (string_bytes s)

abbrev pub conditional_view : Conditional → SourceCase
conditional_view c = (view c.test, view c.value)

abbrev pub fact_view : FactSource → Fact
fact_view f = record {
  path_text = string_bytes f.path_text;
  path = f.path;
  stated = stated_view f.stated;
  limits = map limit_view f.limits.items;
  main = option_map view f.main;
  conditional = option_map conditional_view f.conditional;
  placeholder = option_map view f.placeholder;
  description = option_map string_bytes f.description;
}

-- ---- nodes

-- of an expression that may be absent
abbrev pub option_nodes : Option Source → List Source
option_nodes None = []
option_nodes (Some t) = nodes t

abbrev pub option_size : Option Source → ℕ
option_size None = 0
option_size (Some t) = size t

abbrev pub option_within : ℕ → Option Source → Bool
option_within most None = true
option_within most (Some t) = nat_le (depth t) most

-- of a conditional that may be absent: the condition, then the value
abbrev pub conditional_nodes : Option SourceCase → List Source
conditional_nodes None = []
conditional_nodes (Some c) = nodes c.0 ++ nodes c.1

abbrev pub conditional_size : Option SourceCase → ℕ
conditional_size None = 0
conditional_size (Some c) = size c.0 + size c.1

abbrev pub conditional_within : ℕ → Option SourceCase → Bool
conditional_within most None = true
conditional_within most (Some c) = nat_le (depth c.0) most && nat_le (depth c.1) most

-- the nodes of a fact in preorder: main, then the conditional's condition, its value, then the placeholder
abbrev pub fact_nodes : Fact → List Source
fact_nodes f = option_nodes f.main ++ (conditional_nodes f.conditional ++ option_nodes f.placeholder)

-- how many they are
abbrev pub fact_size : Fact → ℕ
fact_size f = option_size f.main + (conditional_size f.conditional + option_size f.placeholder)

-- each of its four expressions is at most this deep
abbrev pub fact_within : ℕ → Fact → Bool
fact_within most f = option_within most f.main && conditional_within most f.conditional && option_within most f.placeholder
