-- What a dictionary is, as it is written, and the limits that it keeps.
use Rattle.std.specs.Prelude.{◌≡◌, ◌≤◌, ℕ, suc, IsTrue, Bool, true, false, not, nat_lt, List, [], ◌∷◌, ◌++◌, map, length, sum_by, count_by, Option, Some, None, if◌then◌else◌}
use Rattle.std.specs.List.{list_any, All}
use Rattle.value_text.specs.Enums.{Listed, are_distinct}
use Rattle.value_text.specs.ValueLaws.{IsValueOf}
use Rattle.dict_source.specs.Facts.{Fact, Stated, scalar, enum_of, writable_list, list_of, item_of, fact_view, fact_size, fact_within}
use Rattle.dict_source.specs.Tables.{LookupTable, table_names, table_values}
use Rattle.dict_source.specs.Forms.{IsWellFormed}
use Rattle.dict_source.specs.declared.fact_source.FactSource.{FactSource}

-- the lists of options, the tables, and the facts in their order
pub record Dictionary : Type 0 where
  pub enums : List Listed
  pub tables : List LookupTable
  pub facts : List Fact

-- the same, with the facts as they lie in memory
pub record Written : Type 0 where
  pub enums : List Listed
  pub tables : List LookupTable
  pub facts : List FactSource

abbrev pub dictionary_view : Written → Dictionary
dictionary_view w = record { enums = w.enums; tables = w.tables; facts = map fact_view w.facts }

-- the number of the first that passes the test, where they are counted from n
abbrev pub number_from : {X : Type 0} → (X → Bool) → ℕ → List X → Option ℕ
number_from test n [] = None
number_from test n (x ∷ xs) = if test x then Some n else number_from test (suc n) xs

-- ---- limits

abbrev pub is_collection : Stated → Bool
is_collection (scalar t) = false
is_collection (enum_of n) = false
is_collection writable_list = true
is_collection (list_of u) = false
is_collection (item_of u) = false

-- whether there are too many: facts, nodes, writable collections, enums, options of an enum, limits of a fact
abbrev pub passed : Dictionary → List Bool
passed d =
    nat_lt 2000 (length d.facts)
    ∷ nat_lt 40000 (sum_by fact_size d.facts)
    ∷ nat_lt 32 (count_by (λ f. is_collection f.stated) d.facts)
    ∷ nat_lt 200 (length d.enums)
    ∷ list_any (λ e. nat_lt 100 (length e.options)) d.enums
    ∷ list_any (λ f. nat_lt 8 (length f.limits)) d.facts
    ∷ []

-- the first of these of which there are too many, from 1
abbrev pub too_many : Dictionary → Option ℕ
too_many d = number_from (λ b. b) 1 (passed d)

-- the first fact with an expression deeper than 48, from 1
abbrev pub too_deep : Dictionary → Option ℕ
too_deep d = number_from (λ f. not (fact_within 48 f)) 1 d.facts

pub record IsWithinLimits (d : Dictionary) : Type 0 where
  pub many : too_many d ≡ None
  pub deep : too_deep d ≡ None

-- ---- what every dictionary keeps

-- at most a hundred tables, each under a name of its own, whose values are of its type over these lists of options
pub record AreTables (enums : List Listed) (tables : List LookupTable) : Type 0 where
  pub few : length tables ≤ 100
  pub distinct : IsTrue (are_distinct (table_names tables))
  pub typed : All (λ t. All (IsValueOf enums t.to) (table_values t)) tables

pub record IsValid (d : Dictionary) : Type 0 where
  pub well_formed : All (IsWellFormed d.tables) d.facts
  pub tables : AreTables d.enums d.tables
  pub limits : IsWithinLimits d

-- the dictionary with one fact more, at its end
abbrev pub with_fact : Dictionary → Fact → Dictionary
with_fact d f = record { enums = d.enums; tables = d.tables; facts = d.facts ++ f ∷ [] }
