-- Which expressions and facts are well formed.
use Rattle.std.specs.Prelude.{◌≡◌, ℕ, List, [], Option, Some, None}
use Rattle.fact_paths.specs.Paths.{SpellsFactPath, SpellsUsePath}
use Rattle.fact_values.specs.declared.fact_type.FactType.{FactType}
use Rattle.fact_values.specs.declared.fact_type.FactType.TheVariants as types
use Rattle.dict_source.specs.declared.operators.ManyOp.{ManyOp}
use Rattle.dict_source.specs.declared.operators.ManyOp.TheVariants.{All, Any, Add, Subtract, GreaterOf, LesserOf}
use Rattle.dict_source.specs.declared.operators.OneOp.{OneOp}
use Rattle.dict_source.specs.declared.operators.OneOp.TheVariants as ones
use Rattle.dict_source.specs.Tree.{Use, Source, Sources, SourceCase, SourceCases, literal, read, switch, many, one, two, pick, no_trees, tree, no_cases, a_case}
use Rattle.dict_source.specs.Tables.{LookupTable, table_named}
use Rattle.dict_source.specs.Facts.{Fact, Stated, scalar, enum_of, writable_list, list_of, item_of}

-- what the grammar reads from the text, and None where it reads nothing
abbrev pub IsReadFrom : {P : Type 0} → (List ℕ → P → Type 0) → List ℕ → Option P → Type 0
IsReadFrom spells text (Some p) = spells text p
IsReadFrom {P = P} spells text None = (p : P) → ¬ (spells text p)

abbrev pub IsUse : Use → Type 0
IsUse u = IsReadFrom SpellsUsePath u.text u.path

-- one or more
abbrev pub AreSome : Sources → Type 0
AreSome no_trees = ⊥
AreSome (tree t ts) = Unit {0}

-- two or more
abbrev pub AreTwo : Sources → Type 0
AreTwo no_trees = ⊥
AreTwo (tree t ts) = AreSome ts

-- as many operands as the node may have
abbrev pub AreEnough : ManyOp → Sources → Type 0
AreEnough All ts = AreSome ts
AreEnough Any ts = AreSome ts
AreEnough Add ts = AreSome ts
AreEnough Subtract ts = AreTwo ts
AreEnough GreaterOf ts = AreSome ts
AreEnough LesserOf ts = AreSome ts

-- a table is one of these, the first of its name
abbrev pub HasTable : List LookupTable → OneOp → Type 0
HasTable tables (ones.Lookup t) = table_named t.name tables ≡ Some t
HasTable tables op = Unit {0}

-- one or more
abbrev pub AreCases : SourceCases → Type 0
AreCases no_cases = ⊥
AreCases (a_case t o cs) = Unit {0}

-- each node has a number of operands that it may have, each use is read from its text, and each table is one of these
abbrev mutual
  pub HasForm : List LookupTable → Source → Type 0
  HasForm tables (literal c) = Unit {0}
  HasForm tables (read r) = IsUse r.1
  HasForm tables (switch cs) = AreCases cs × HaveCaseForms tables cs
  HasForm tables (many op ts) = AreEnough op ts × HaveForms tables ts
  HasForm tables (one op t) = HasTable tables op × HasForm tables t
  HasForm tables (two op a b) = HasForm tables a × HasForm tables b
  HasForm tables (pick op p t) = IsUse p × HasForm tables t

  pub HaveForms : List LookupTable → Sources → Type 0
  HaveForms tables no_trees = Unit {0}
  HaveForms tables (tree t ts) = HasForm tables t × HaveForms tables ts

  pub HaveCaseForms : List LookupTable → SourceCases → Type 0
  HaveCaseForms tables no_cases = Unit {0}
  HaveCaseForms tables (a_case t o cs) = HasForm tables t × HasForm tables o × HaveCaseForms tables cs

-- an expression that may be absent
abbrev pub HasOptionForm : List LookupTable → Option Source → Type 0
HasOptionForm tables None = Unit {0}
HasOptionForm tables (Some t) = HasForm tables t

abbrev pub HasConditionalForm : List LookupTable → Option SourceCase → Type 0
HasConditionalForm tables None = Unit {0}
HasConditionalForm tables (Some c) = HasForm tables c.0 × HasForm tables c.1

-- ---- types

-- one of the six types without a number
abbrev pub IsScalar : FactType → Type 0
IsScalar types.Boolean = Unit {0}
IsScalar types.Int = Unit {0}
IsScalar types.Dollar = Unit {0}
IsScalar types.Rational = Unit {0}
IsScalar types.Day = Unit {0}
IsScalar types.Text = Unit {0}
IsScalar (types.Enum n) = ⊥
IsScalar (types.Collection c) = ⊥
IsScalar (types.Item c) = ⊥

-- a type that a writable fact may state
abbrev pub IsWritableType : Stated → Type 0
IsWritableType (scalar t) = IsScalar t
IsWritableType (enum_of n) = Unit {0}
IsWritableType writable_list = Unit {0}
IsWritableType (list_of u) = ⊥
IsWritableType (item_of u) = ⊥

-- a type that a derived fact may state
abbrev pub IsDerivedType : Stated → Type 0
IsDerivedType (scalar t) = IsScalar t
IsDerivedType (enum_of n) = Unit {0}
IsDerivedType writable_list = ⊥
IsDerivedType (list_of u) = IsUse u
IsDerivedType (item_of u) = IsUse u

-- ---- facts

-- without a main expression the fact is writable, with one it is derived
abbrev pub HasKind : List LookupTable → Fact → Option Source → Type 0
HasKind tables f None = IsWritableType f.stated × (f.conditional ≡ None)
HasKind tables f (Some t) = IsDerivedType f.stated × HasForm tables t × (f.limits ≡ [])

pub record IsWellFormed (tables : List LookupTable) (f : Fact) : Type 0 where
  pub path : IsReadFrom SpellsFactPath f.path_text f.path
  pub kind : HasKind tables f f.main
  pub conditional : HasConditionalForm tables f.conditional
  pub placeholder : HasOptionForm tables f.placeholder
