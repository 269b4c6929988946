-- The JSON form of an expression: which value spells which.
use Rattle.std.specs.Prelude.{◌≡◌, ℕ, List, codes}
use Rattle.serde_json.specs.Data.{Data, string, array, Items, no_items, item}
use Rattle.dict_source.specs.Tree.{Literal, literal_true, literal_false, literal_int, literal_dollar, literal_rational, literal_day, literal_text, literal_choice, Source, Sources, SourceCases, literal, read, switch, many, one, two, pick, no_trees, tree, no_cases, a_case}
use Rattle.dict_source.specs.declared.operators.OneOp.{OneOp}
use Rattle.dict_source.specs.declared.operators.OneOp.TheVariants as ones
use Rattle.dict_source.specs.Tables.{LookupTable}
use Rattle.dict_source.specs.Forms.{HasForm}
use Rattle.fact_json.specs.Names.{read_name, many_name, one_name, two_name, pick_name}

-- `["NAME", ..]`
abbrev pub node_json : List ℕ → Items → Data
node_json name operands = array (item (string name) operands)

-- `["NAME", T]`
abbrev pub text_json : List ℕ → List ℕ → Data
text_json name text = node_json name (item (string text) no_items)

abbrev pub literal_json : Literal → Data
literal_json literal_true = node_json (codes "True") no_items
literal_json literal_false = node_json (codes "False") no_items
literal_json (literal_int text) = text_json (codes "Int") text
literal_json (literal_dollar text) = text_json (codes "Dollar") text
literal_json (literal_rational text) = text_json (codes "Rational") text
literal_json (literal_day text) = text_json (codes "Day") text
literal_json (literal_text text) = text_json (codes "Text") text
literal_json (literal_choice name option) = node_json (codes "Enum") (item (string name) (item (string option) no_items))

-- a table is called by its name, before the operand
abbrev pub one_json : OneOp → Data → Data
one_json (ones.Lookup t) operand = node_json (codes "Lookup") (item (string t.name) (item operand no_items))
one_json op operand = node_json (one_name op) (item operand no_items)

abbrev mutual
  pub json_of : Source → Data
  json_of (literal c) = literal_json c
  json_of (read r) = text_json (read_name r.0) r.1.text
  json_of (switch cs) = node_json (codes "Switch") (json_of_cases cs)
  json_of (many op ts) = node_json (many_name op) (json_of_trees ts)
  json_of (one op t) = one_json op (json_of t)
  json_of (two op a b) = node_json (two_name op) (item (json_of a) (item (json_of b) no_items))
  json_of (pick op p t) = node_json (pick_name op) (item (string p.text) (item (json_of t) no_items))

  pub json_of_trees : Sources → Items
  json_of_trees no_trees = no_items
  json_of_trees (tree t ts) = item (json_of t) (json_of_trees ts)

  pub json_of_cases : SourceCases → Items
  json_of_cases no_cases = no_items
  json_of_cases (a_case t o cs) = item (node_json (codes "Case") (item (json_of t) (item (json_of o) no_items))) (json_of_cases cs)

-- the JSON value spells the expression, over these tables
abbrev pub Spells : List LookupTable → Data → Source → Type 0
Spells tables d t = HasForm tables t × (d ≡ json_of t)
