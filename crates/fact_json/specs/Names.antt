-- The names of nodes.
use Rattle.std.specs.Prelude.{ℕ, List, [], ◌∷◌, codes, Option, Some, None, if◌then◌else◌, bytes_eq}
use Rattle.dict_source.specs.declared.operators.ReadOp.{ReadOp}
use Rattle.dict_source.specs.declared.operators.ReadOp.TheVariants as reads
use Rattle.dict_source.specs.declared.operators.ManyOp.{ManyOp}
use Rattle.dict_source.specs.declared.operators.ManyOp.TheVariants as manies
use Rattle.dict_source.specs.declared.operators.OneOp.{OneOp}
use Rattle.dict_source.specs.declared.operators.OneOp.TheVariants as ones
use Rattle.dict_source.specs.declared.operators.TwoOp.{TwoOp}
use Rattle.dict_source.specs.declared.operators.TwoOp.TheVariants as twos
use Rattle.dict_source.specs.declared.operators.PickOp.{PickOp}
use Rattle.dict_source.specs.declared.operators.PickOp.TheVariants as picks
use Rattle.fact_json.specs.declared.node_name.ConstantName.{ConstantName}
use Rattle.fact_json.specs.declared.node_name.ConstantName.TheVariants as constants
use Rattle.fact_json.specs.declared.node_name.OneName.{OneName}
use Rattle.fact_json.specs.declared.node_name.OneName.TheVariants as one_names
use Rattle.fact_json.specs.declared.node_name.NodeName.{NodeName}
use Rattle.fact_json.specs.declared.node_name.NodeName.TheVariants as names

abbrev pub constant_name : ConstantName → List ℕ
constant_name constants.True = codes "True"
constant_name constants.False = codes "False"
constant_name constants.Int = codes "Int"
constant_name constants.Dollar = codes "Dollar"
constant_name constants.Rational = codes "Rational"
constant_name constants.Day = codes "Day"
constant_name constants.Text = codes "Text"
constant_name constants.Enum = codes "Enum"

abbrev pub read_name : ReadOp → List ℕ
read_name reads.Dependency = codes "Dependency"
read_name reads.IsComplete = codes "IsComplete"
read_name reads.CollectionSize = codes "CollectionSize"
read_name reads.CollectionSum = codes "CollectionSum"
read_name reads.Count = codes "Count"

abbrev pub many_name : ManyOp → List ℕ
many_name manies.All = codes "All"
many_name manies.Any = codes "Any"
many_name manies.Add = codes "Add"
many_name manies.Subtract = codes "Subtract"
many_name manies.GreaterOf = codes "GreaterOf"
many_name manies.LesserOf = codes "LesserOf"

abbrev pub one_name : OneOp → List ℕ
one_name ones.Not = codes "Not"
one_name ones.Round = codes "Round"
one_name ones.YearOf = codes "YearOf"
one_name ones.MonthOf = codes "MonthOf"
one_name ones.DayOf = codes "DayOf"
one_name (ones.Lookup t) = codes "Lookup"

abbrev pub two_name : TwoOp → List ℕ
two_name twos.Multiply = codes "Multiply"
two_name twos.Divide = codes "Divide"
two_name twos.Equal = codes "Equal"
two_name twos.NotEqual = codes "NotEqual"
two_name twos.GreaterThan = codes "GreaterThan"
two_name twos.LessThan = codes "LessThan"
two_name twos.GreaterThanOrEqual = codes "GreaterThanOrEqual"
two_name twos.LessThanOrEqual = codes "LessThanOrEqual"
two_name twos.AddDays = codes "AddDays"
two_name twos.AddMonths = codes "AddMonths"
two_name twos.AddYears = codes "AddYears"
two_name twos.DaysBetween = codes "DaysBetween"
two_name twos.AgeOn = codes "AgeOn"
two_name twos.RoundUp = codes "RoundUp"
two_name twos.RoundDown = codes "RoundDown"
two_name twos.RoundNearest = codes "RoundNearest"

abbrev pub pick_name : PickOp → List ℕ
pick_name picks.Filter = codes "Filter"
pick_name picks.Find = codes "Find"

-- the operation that a name alone stands for
abbrev pub op_of_name : OneName → OneOp
op_of_name one_names.Not = ones.Not
op_of_name one_names.Round = ones.Round
op_of_name one_names.YearOf = ones.YearOf
op_of_name one_names.MonthOf = ones.MonthOf
op_of_name one_names.DayOf = ones.DayOf

-- the name of a node
abbrev pub node_name : NodeName → List ℕ
node_name (names.Constant kind) = constant_name kind
node_name (names.Read op) = read_name op
node_name names.Switch = codes "Switch"
node_name (names.Many op) = many_name op
node_name (names.One name) = one_name (op_of_name name)
node_name (names.Two op) = two_name op
node_name (names.Pick op) = pick_name op
node_name names.Lookup = codes "Lookup"

-- what stands under the name
abbrev pub under_name : {A : Type 0} → List ℕ → List (List ℕ × A) → Option A
under_name name [] = None
under_name name (r ∷ rows) = if bytes_eq name r.0 then Some r.1 else under_name name rows

-- the names of the nodes
abbrev pub node_names : List (List ℕ × NodeName)
node_names =
    (codes "True", names.Constant constants.True)
    ∷ (codes "False", names.Constant constants.False)
    ∷ (codes "Int", names.Constant constants.Int)
    ∷ (codes "Dollar", names.Constant constants.Dollar)
    ∷ (codes "Rational", names.Constant constants.Rational)
    ∷ (codes "Day", names.Constant constants.Day)
    ∷ (codes "Text", names.Constant constants.Text)
    ∷ (codes "Enum", names.Constant constants.Enum)
    ∷ (codes "Dependency", names.Read reads.Dependency)
    ∷ (codes "IsComplete", names.Read reads.IsComplete)
    ∷ (codes "CollectionSize", names.Read reads.CollectionSize)
    ∷ (codes "CollectionSum", names.Read reads.CollectionSum)
    ∷ (codes "Count", names.Read reads.Count)
    ∷ (codes "Switch", names.Switch)
    ∷ (codes "All", names.Many manies.All)
    ∷ (codes "Any", names.Many manies.Any)
    ∷ (codes "Not", names.One one_names.Not)
    ∷ (codes "Add", names.Many manies.Add)
    ∷ (codes "Subtract", names.Many manies.Subtract)
    ∷ (codes "Multiply", names.Two twos.Multiply)
    ∷ (codes "Divide", names.Two twos.Divide)
    ∷ (codes "GreaterOf", names.Many manies.GreaterOf)
    ∷ (codes "LesserOf", names.Many manies.LesserOf)
    ∷ (codes "Equal", names.Two twos.Equal)
    ∷ (codes "NotEqual", names.Two twos.NotEqual)
    ∷ (codes "GreaterThan", names.Two twos.GreaterThan)
    ∷ (codes "LessThan", names.Two twos.LessThan)
    ∷ (codes "GreaterThanOrEqual", names.Two twos.GreaterThanOrEqual)
    ∷ (codes "LessThanOrEqual", names.Two twos.LessThanOrEqual)
    ∷ (codes "Round", names.One one_names.Round)
    ∷ (codes "YearOf", names.One one_names.YearOf)
    ∷ (codes "AddDays", names.Two twos.AddDays)
    ∷ (codes "Filter", names.Pick picks.Filter)
    ∷ (codes "Find", names.Pick picks.Find)
    ∷ (codes "MonthOf", names.One one_names.MonthOf)
    ∷ (codes "DayOf", names.One one_names.DayOf)
    ∷ (codes "AddMonths", names.Two twos.AddMonths)
    ∷ (codes "AddYears", names.Two twos.AddYears)
    ∷ (codes "DaysBetween", names.Two twos.DaysBetween)
    ∷ (codes "AgeOn", names.Two twos.AgeOn)
    ∷ (codes "RoundUp", names.Two twos.RoundUp)
    ∷ (codes "RoundDown", names.Two twos.RoundDown)
    ∷ (codes "RoundNearest", names.Two twos.RoundNearest)
    ∷ (codes "Lookup", names.Lookup)
    ∷ []

-- the node of a name
abbrev pub node_named : List ℕ → Option NodeName
node_named name = under_name name node_names
