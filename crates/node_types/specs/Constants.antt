-- The values of constants.
use Rattle.std.specs.Prelude.{◌≡◌, ℕ, true, false, List, [], ◌∷◌, ◌++◌, Option, Some, None, option_and_then, map}
use Rattle.fact_values.specs.declared.fact_type.FactType.{FactType}
use Rattle.fact_values.specs.declared.fact_type.FactType.TheVariants as types
use Rattle.fact_values.specs.declared.value.Value.{Value}
use Rattle.fact_values.specs.declared.value.Value.TheVariants as values
use Rattle.value_text.specs.Enums.{Listed, list_place}
use Rattle.value_text.specs.Values.{value_at}
use Rattle.dict_source.specs.Tree.{Literal, literal_true, literal_false, literal_int, literal_dollar, literal_rational, literal_day, literal_text, literal_choice, Source, Sources, SourceCase, SourceCases, literal, read, switch, many, one, two, pick, no_trees, tree, no_cases, a_case}
use Rattle.dict_source.specs.Facts.{Fact, fact_nodes}

-- an option of the list at a place, where the list is declared
abbrev pub choice_value : List Listed → Option ℕ → List ℕ → Option Value
choice_value enums None text = None
choice_value enums (Some list) text = value_at enums (types.Enum list) text

-- the value that the constant's text spells: none where it spells none of the type
abbrev pub literal_value : List Listed → Literal → Option Value
literal_value enums literal_true = Some (values.Boolean true)
literal_value enums literal_false = Some (values.Boolean false)
literal_value enums (literal_int text) = value_at enums types.Int text
literal_value enums (literal_dollar text) = value_at enums types.Dollar text
literal_value enums (literal_rational text) = value_at enums types.Rational text
literal_value enums (literal_day text) = value_at enums types.Day text
literal_value enums (literal_text text) = value_at enums types.Text text
literal_value enums (literal_choice name text) = choice_value enums (list_place name enums) text

-- the type of a constant's value; no constant has members
abbrev pub value_type : Value → Option FactType
value_type (values.Boolean b) = Some types.Boolean
value_type (values.Int n) = Some types.Int
value_type (values.Dollar n) = Some types.Dollar
value_type (values.Rational q) = Some types.Rational
value_type (values.Day n) = Some types.Day
value_type (values.Text text) = Some types.Text
value_type (values.Choice list place) = Some (types.Enum list)
value_type (values.Members members) = None
value_type (values.Item member) = None

abbrev pub literal_type : List Listed → Literal → Option FactType
literal_type enums c = option_and_then value_type (literal_value enums c)

-- ---- nodes

-- the value of each node in preorder: none of a node that is no constant
abbrev mutual
  pub values_of : List Listed → Source → List (Option Value)
  values_of enums (literal c) = literal_value enums c ∷ []
  values_of enums (read r) = None ∷ []
  values_of enums (switch cs) = None ∷ case_values enums cs
  values_of enums (many op ts) = None ∷ tree_values enums ts
  values_of enums (one op t) = None ∷ values_of enums t
  values_of enums (two op a b) = None ∷ (values_of enums a ++ values_of enums b)
  values_of enums (pick op p t) = None ∷ values_of enums t

  pub tree_values : List Listed → Sources → List (Option Value)
  tree_values enums no_trees = []
  tree_values enums (tree t ts) = values_of enums t ++ tree_values enums ts

  pub case_values : List Listed → SourceCases → List (Option Value)
  case_values enums no_cases = []
  case_values enums (a_case t o cs) = values_of enums t ++ (values_of enums o ++ case_values enums cs)

abbrev pub option_values : List Listed → Option Source → List (Option Value)
option_values enums None = []
option_values enums (Some t) = values_of enums t

abbrev pub conditional_values : List Listed → Option SourceCase → List (Option Value)
conditional_values enums None = []
conditional_values enums (Some c) = values_of enums c.0 ++ values_of enums c.1

-- of a fact: main, then the conditional's condition, its value, then the placeholder
abbrev pub fact_values : List Listed → Fact → List (Option Value)
fact_values enums f = option_values enums f.main ++ (conditional_values enums f.conditional ++ option_values enums f.placeholder)

-- ---- the same by nodes

-- the value of a node that is a constant
abbrev pub node_value : List Listed → Source → Option Value
node_value enums (literal c) = literal_value enums c
node_value enums (read r) = None
node_value enums (switch cs) = None
node_value enums (many op ts) = None
node_value enums (one op t) = None
node_value enums (two op a b) = None
node_value enums (pick op p t) = None

-- a law: the values of a fact are those of its nodes
abbrev pub ValuesAreOfNodes : Type 0
ValuesAreOfNodes = (enums : List Listed) (f : Fact) → fact_values enums f ≡ map (node_value enums) (fact_nodes f)
