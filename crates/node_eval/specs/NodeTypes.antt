-- Which type a compiled node has, from the types of the facts, and when the cells that it reads have these types.
use Rattle.std.specs.Prelude.{◌≡◌, ℕ, true, Option, Some, None, option_and_then, option_map}
use Rattle.fact_values.specs.declared.fact_type.FactType.{FactType}
use Rattle.fact_values.specs.declared.fact_type.FactType.TheVariants as types
use Rattle.fact_values.specs.declared.slot.Slot.{Slot}
use Rattle.fact_values.specs.declared.value.Value.{Value}
use Rattle.fact_values.specs.declared.value.Value.TheVariants.{Boolean, Int, Dollar, Rational, Day, Text, Choice, Members, Item}
use Rattle.dict_source.specs.Tree.{nodes}
use Rattle.dict_source.specs.Typing.{HasType, Types}
use Rattle.three_state.specs.declared.res.Res.{Res}
use Rattle.evaluation.specs.Mentioned.{AllOf}
use Rattle.evaluation.specs.Typed.{Domains, IsResOfType}
use Rattle.evaluation.specs.Results.{Results}
use Rattle.node_eval.specs.Memory.{SomeOf, TakesMemory}
use Rattle.node_eval.specs.Dependencies.{node_env}
use Rattle.node_eval.specs.SlotsOf.{slots_of}
use Rattle.node_eval.specs.View.{Compiled, Reading}
use Rattle.node_eval.specs.declared.node.NodeRead.{NodeRead}
use Rattle.node_eval.specs.declared.node.NodeRead.TheVariants as node_read
use Rattle.node_eval.specs.declared.node.ResolvedPath.{ResolvedPath}
use Rattle.node_eval.specs.declared.node.ResolvedPath.TheVariants.{Global, Same, Inner, Each, Through, SameThrough}
use Rattle.node_eval.specs.declared.node_position.NodePosition.{NodePosition}

-- ---- the types of what a node is made of

-- no constant is a list of members or an item
abbrev pub constant_type : Value → Option FactType
constant_type (Boolean b) = Some types.Boolean
constant_type (Int n) = Some types.Int
constant_type (Dollar cents) = Some types.Dollar
constant_type (Rational q) = Some types.Rational
constant_type (Day n) = Some types.Day
constant_type (Text s) = Some types.Text
constant_type (Choice list place) = Some (types.Enum list)
constant_type (Members ms) = None
constant_type (Item m) = None

-- the types of facts, by their numbers
abbrev pub FactTypes : Type 0
FactTypes = ℕ → Option FactType

-- the base, where it is a collection
abbrev pub collection_base : FactType → Option ℕ
collection_base (types.Collection c) = Some c
collection_base _ = None

abbrev pub item_base : FactType → Option ℕ
item_base (types.Item c) = Some c
item_base _ = None

-- of a field, behind a fact that has a base
abbrev pub behind : Option ℕ → Option FactType → Option FactType
behind (Some c) t = t
behind None t = None

-- of what a Dependency reads: none by a path that no Dependency has
abbrev pub dependency_type : FactTypes → ResolvedPath → Option FactType
dependency_type facts (Global n) = facts n
dependency_type facts (Same n) = facts n
dependency_type facts (Inner n) = facts n
dependency_type facts (Each n m) = None
dependency_type facts (Through n m) = behind (option_and_then item_base (facts n)) (facts m)
dependency_type facts (SameThrough n m) = behind (option_and_then item_base (facts n)) (facts m)

-- the base of a collection that stands once
abbrev pub source_base : FactTypes → ResolvedPath → Option ℕ
source_base facts (Global n) = option_and_then collection_base (facts n)
source_base facts _ = None

-- of a field of the members of a collection that stands once
abbrev pub field_type : FactTypes → ResolvedPath → Option FactType
field_type facts (Each n m) = behind (option_and_then collection_base (facts n)) (facts m)
field_type facts _ = None

-- what a node gives whose field has this type
abbrev pub int_sum : FactType → Option FactType
int_sum types.Int = Some types.Int
int_sum _ = None

abbrev pub dollar_sum : FactType → Option FactType
dollar_sum types.Dollar = Some types.Dollar
dollar_sum _ = None

abbrev pub counted : FactType → Option FactType
counted types.Boolean = Some types.Int
counted _ = None

abbrev pub read_type : FactTypes → NodeRead → ResolvedPath → Option FactType
read_type facts node_read.Dependency r = dependency_type facts r
read_type facts node_read.IsComplete r = option_map (λ t. types.Boolean) (dependency_type facts r)
read_type facts node_read.CollectionSize r = option_map (λ c. types.Int) (source_base facts r)
read_type facts node_read.SumInt r = option_and_then int_sum (field_type facts r)
read_type facts node_read.SumDollar r = option_and_then dollar_sum (field_type facts r)
read_type facts node_read.Count r = option_and_then counted (field_type facts r)

-- A path says itself under which condition it stands, so the types are those of every base. Every table fits: those of
-- a dictionary were judged when it was read.
abbrev pub node_types : FactTypes → Types Value Reading ResolvedPath
node_types facts = record {
  constant = constant_type;
  reads = λ b r. read_type facts r.0 r.1;
  source = λ b r. source_base facts r;
  fits = λ t. true;
}

-- ---- a node over cells

-- the cell is missing, or has a value of its fact's type, or none
abbrev pub IsTypedCell : Domains → FactTypes → Results → Slot → Type 0
IsTypedCell d facts results s = (r : Res) → results s ≡ Some r → (t : FactType) → facts s.fact ≡ Some t → IsResOfType d r t

-- the node has a type, and so have the cells that its evaluation reads
pub record IsTyped (d : Domains) (facts : FactTypes) (results : Results) (at : NodePosition) (t : Compiled) : Type 0 where
  pub type_of : FactType
  pub node : HasType (node_types facts) 0 t type_of
  pub cells : AllOf (IsTypedCell d facts results) (slots_of results at t)

-- ---- what takes memory

-- the types whose values hold memory
abbrev pub IsTextOrList : FactType → Type 0
IsTextOrList types.Text = Unit {0}
IsTextOrList (types.Collection c) = Unit {0}
IsTextOrList _ = ⊥

-- an expression of such a type
abbrev pub GivesTextOrList : FactTypes → Compiled → Type 0
GivesTextOrList facts t = (b : ℕ) × ((u : FactType) × (HasType (node_types facts) b t u × IsTextOrList u))

-- some expression of the tree is of the type Text or of a Collection
abbrev pub SomeGivesTextOrList : FactTypes → Compiled → Type 0
SomeGivesTextOrList facts t = SomeOf (GivesTextOrList facts) (nodes t)

-- ---- a law

-- an evaluation takes memory only there
abbrev pub TypedTakesMemory : Type 0
TypedTakesMemory = (d : Domains) (facts : FactTypes) (results : Results) (at : NodePosition) (t : Compiled) → IsTyped d facts results at t → TakesMemory (node_env results) at t → SomeGivesTextOrList facts t
