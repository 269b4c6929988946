-- The tree that an `Expr` stands for.
use Rattle.std.specs.Prelude.{ℕ, Box, List, [], ◌∷◌, map, Some, None, string_bytes}
use Rattle.std.specs.declared.alloc.Global.{Global}
use Rattle.fact_paths.specs.Parsing.{use_path_of}
use Rattle.fact_paths.specs.Paths.{use_path_text}
use Rattle.dict_source.specs.Tree.{Literal, literal_true, literal_false, literal_int, literal_dollar, literal_rational, literal_day, literal_text, literal_choice, Use, Source, Sources, SourceCase, SourceCases, literal, read, switch, many, one, two, pick, no_trees, tree, no_cases, a_case}
use Rattle.dict_source.specs.Tables.{LookupTable}
use Rattle.dict_source.specs.declared.constant.Constant.{Constant}
use Rattle.dict_source.specs.declared.constant.Constant.TheVariants as constants
use Rattle.dict_source.specs.declared.path_use.PathUse.{PathUse}
use Rattle.dict_source.specs.declared.path_use.PathUse.TheVariants.{Spelled, Misspelled}
use Rattle.dict_source.specs.declared.expr.Expr.{Expr, fold-Expr}
use Rattle.dict_source.specs.declared.expr.Case.{Case}
use Rattle.dict_source.specs.declared.expr.Expr.TheOpen.{Expr-F, Case-F}

abbrev pub literal_of : Constant → Literal
literal_of constants.True = literal_true
literal_of constants.False = literal_false
literal_of (constants.Int s) = literal_int (string_bytes s)
literal_of (constants.Dollar s) = literal_dollar (string_bytes s)
literal_of (constants.Rational s) = literal_rational (string_bytes s)
literal_of (constants.Day s) = literal_day (string_bytes s)
literal_of (constants.Text s) = literal_text (string_bytes s)
literal_of (constants.Choice s t) = literal_choice (string_bytes s) (string_bytes t)

abbrev pub use_view : PathUse → Use
use_view (Spelled path) = record { text = use_path_text path; path = Some path }
use_view (Misspelled text) = record { text = string_bytes text; path = None }

abbrev pub trees_of : List Source → Sources
trees_of [] = no_trees
trees_of (t ∷ ts) = tree t (trees_of ts)

abbrev pub cases_of : List SourceCase → SourceCases
cases_of [] = no_cases
cases_of (c ∷ cs) = a_case c.0 c.1 (cases_of cs)

abbrev pub view_step : Expr-F Source SourceCase → Source
view_step (Expr-F.Const c) = literal (literal_of c)
view_step (Expr-F.Read op p) = read (op, use_view p)
view_step (Expr-F.Switch cs) = switch (cases_of cs.items)
view_step (Expr-F.Many op ts) = many op (trees_of ts.items)
view_step (Expr-F.One op t) = one op t.value
view_step (Expr-F.Two op a b) = two op a.value b.value
view_step (Expr-F.Pick op p t) = pick op (use_view p) t.value

abbrev pub case_step : Case-F Source SourceCase → SourceCase
case_step c = (c.test, c.outcome)

abbrev pub view : Expr → Source
view = fold-Expr Source SourceCase view_step case_step

abbrev pub case_view : Case → SourceCase
case_view c = (view c.test, view c.outcome)

abbrev pub trees_view : List Expr → Sources
trees_view es = trees_of (map view es)

abbrev pub cases_view : List Case → SourceCases
cases_view cs = cases_of (map case_view cs)

-- ---- operands of a node

abbrev pub box_view : Box Expr Global → Source
box_view b = view b.value

abbrev pub pair_view : Box Expr Global × Box Expr Global → SourceCase
pair_view p = (view p.0.value, view p.1.value)

abbrev pub looked_view : LookupTable × Box Expr Global → LookupTable × Source
looked_view p = (p.0, view p.1.value)

abbrev pub picked_view : PathUse × Box Expr Global → Use × Source
picked_view p = (use_view p.0, view p.1.value)

-- ---- uses that are made of texts

-- the text, and the path that it spells
abbrev pub use_of : List ℕ → Use
use_of text = record { text = text; path = use_path_of text }
