-- Reading an expression from its JSON value.
use Rattle.std.specs.Prelude.{ℕ, nat_le, Bool, true, false, List, [], ◌∷◌, length, codes, Option, Some, None, option_map, option_and_then, if◌then◌else◌, bytes_eq}
use Rattle.serde_json.specs.Data.{Data, null, boolean, number, string, array, object, Items, no_items, item}
use Rattle.serde_json.specs.Find.{as_str}
use Rattle.dict_source.specs.declared.operators.ManyOp.{ManyOp}
use Rattle.dict_source.specs.declared.operators.ManyOp.TheVariants.{All, Any, Add, Subtract, GreaterOf, LesserOf}
use Rattle.dict_source.specs.declared.operators.OneOp.TheVariants as ones
use Rattle.dict_source.specs.Tables.{LookupTable, table_named}
use Rattle.fact_json.specs.declared.node_name.ConstantName.{ConstantName}
use Rattle.fact_json.specs.declared.node_name.ConstantName.TheVariants as constants
use Rattle.fact_json.specs.declared.node_name.NodeName.{NodeName}
use Rattle.fact_json.specs.declared.node_name.NodeName.TheVariants as names
use Rattle.fact_json.specs.Names.{node_named, op_of_name}
use Rattle.dict_source.specs.Tree.{Literal, literal_true, literal_false, literal_int, literal_dollar, literal_rational, literal_day, literal_text, literal_choice, Use, Source, SourceCase, literal, read, switch, many, one, two, pick}
use Rattle.dict_source.specs.View.{cases_of, trees_of, use_of}

-- ---- operands that are texts

abbrev pub no_operand : {A : Type 0} → A → Items → Option A
no_operand x no_items = Some x
no_operand x (item d ds) = None

abbrev pub one_text : Items → Option (List ℕ)
one_text no_items = None
one_text (item d no_items) = as_str d
one_text (item d (item e ds)) = None

abbrev pub two_texts : Items → Option (List ℕ × List ℕ)
two_texts no_items = None
two_texts (item d no_items) = None
two_texts (item d (item e no_items)) = option_and_then (λ s. option_map (λ t. (s, t)) (as_str e)) (as_str d)
two_texts (item d (item e (item f ds))) = None

abbrev pub constant_of : ConstantName → Items → Option Literal
constant_of constants.True ds = no_operand literal_true ds
constant_of constants.False ds = no_operand literal_false ds
constant_of constants.Int ds = option_map literal_int (one_text ds)
constant_of constants.Dollar ds = option_map literal_dollar (one_text ds)
constant_of constants.Rational ds = option_map literal_rational (one_text ds)
constant_of constants.Day ds = option_map literal_day (one_text ds)
constant_of constants.Text ds = option_map literal_text (one_text ds)
constant_of constants.Enum ds = option_map (λ p. literal_choice p.0 p.1) (two_texts ds)

-- ---- operands that are expressions

-- the fewest operands
abbrev pub fewest : ManyOp → ℕ
fewest All = 1
fewest Any = 1
fewest Add = 1
fewest Subtract = 2
fewest GreaterOf = 1
fewest LesserOf = 1

abbrev pub at_least : {A : Type 0} → ℕ → List A → Option (List A)
at_least n xs = if nat_le n (length xs) then Some xs else None

abbrev pub case_if : Bool → Option SourceCase → Option SourceCase
case_if true pair = pair
case_if false pair = None

abbrev pub is_text : List ℕ → Option (List ℕ) → Bool
is_text word None = false
is_text word (Some text) = bytes_eq text word

abbrev pub picked_of : List ℕ × Source → Use × Source
picked_of p = (use_of p.0, p.1)

-- the table of a name, and the operand
abbrev pub looked_of : List LookupTable → List ℕ × Source → Option (LookupTable × Source)
looked_of tables p = option_map (λ t. (t, p.1)) (table_named p.0 tables)

-- the node with these operands: as texts, as its only one, as a pair, as a text and an expression, as a list, as cases
abbrev pub node_of : List LookupTable → NodeName → Items → Option Source → Option SourceCase → Option (List ℕ × Source) → Option (List Source) → Option (List SourceCase) → Option Source
node_of tables (names.Constant kind) ds only pair picked list cases = option_map literal (constant_of kind ds)
node_of tables (names.Read op) ds only pair picked list cases = option_map (λ s. read (op, use_of s)) (one_text ds)
node_of tables names.Switch ds only pair picked list cases = option_map (λ cs. switch (cases_of cs)) (option_and_then (at_least 1) cases)
node_of tables (names.Many op) ds only pair picked list cases = option_map (λ ts. many op (trees_of ts)) (option_and_then (at_least (fewest op)) list)
node_of tables (names.One name) ds only pair picked list cases = option_map (one (op_of_name name)) only
node_of tables (names.Two op) ds only pair picked list cases = option_map (λ p. two op p.0 p.1) pair
node_of tables (names.Pick op) ds only pair picked list cases = option_map (λ p. pick op (use_of p.0) p.1) picked
node_of tables names.Lookup ds only pair picked list cases = option_map (λ p. one (ones.Lookup p.0) p.1) (option_and_then (looked_of tables) picked)

abbrev mutual
  -- the expression that the value spells
  pub tree_of : List LookupTable → Data → Option Source
  tree_of tables null = None
  tree_of tables (boolean b) = None
  tree_of tables (number n) = None
  tree_of tables (string s) = None
  tree_of tables (array ds) = array_tree tables ds
  tree_of tables (object ms) = None

  pub array_tree : List LookupTable → Items → Option Source
  array_tree tables no_items = None
  array_tree tables (item d ds) =
      option_and_then (λ name. node_of tables name ds (only_tree tables ds) (pair_tree tables ds) (picked_tree tables ds) (tree_list tables ds) (case_list tables ds)) (option_and_then node_named (as_str d))

  pub only_tree : List LookupTable → Items → Option Source
  only_tree tables no_items = None
  only_tree tables (item d no_items) = tree_of tables d
  only_tree tables (item d (item e ds)) = None

  pub pair_tree : List LookupTable → Items → Option SourceCase
  pair_tree tables no_items = None
  pair_tree tables (item d no_items) = None
  pair_tree tables (item d (item e no_items)) = option_and_then (λ a. option_map (λ b. (a, b)) (tree_of tables e)) (tree_of tables d)
  pair_tree tables (item d (item e (item f ds))) = None

  pub picked_tree : List LookupTable → Items → Option (List ℕ × Source)
  picked_tree tables no_items = None
  picked_tree tables (item d no_items) = None
  picked_tree tables (item d (item e no_items)) = option_and_then (λ s. option_map (λ t. (s, t)) (tree_of tables e)) (as_str d)
  picked_tree tables (item d (item e (item f ds))) = None

  pub tree_list : List LookupTable → Items → Option (List Source)
  tree_list tables no_items = Some []
  tree_list tables (item d ds) = option_and_then (λ t. option_map (λ ts. t ∷ ts) (tree_list tables ds)) (tree_of tables d)

  -- `["Case",E,E]`
  pub case_of : List LookupTable → Data → Option SourceCase
  case_of tables null = None
  case_of tables (boolean b) = None
  case_of tables (number n) = None
  case_of tables (string s) = None
  case_of tables (array ds) = case_in tables ds
  case_of tables (object ms) = None

  pub case_in : List LookupTable → Items → Option SourceCase
  case_in tables no_items = None
  case_in tables (item d ds) = case_if (is_text (codes "Case") (as_str d)) (pair_tree tables ds)

  pub case_list : List LookupTable → Items → Option (List SourceCase)
  case_list tables no_items = Some []
  case_list tables (item d ds) = option_and_then (λ c. option_map (λ cs. c ∷ cs) (case_list tables ds)) (case_of tables d)
