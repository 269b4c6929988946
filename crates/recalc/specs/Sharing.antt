-- What engines over one dictionary share: the graph, and the cells at no answers.
use Rattle.std.specs.Prelude.{◌≡◌, ℕ, ◌&&◌, nat_eq, if◌then◌else◌, List, Option, Some, None, IfSome}
use Rattle.std.specs.List.{list_any}
use Rattle.std.specs.FinMap as finite
use Rattle.fact_values.specs.declared.slot.Slot.{Slot}
use Rattle.three_state.specs.declared.res.Res.{Res}
use Rattle.answers.specs.Answered.{Answered, start}
use Rattle.cell_store.specs.Contents.{Cells}
use Rattle.cell_store.specs.declared.cell.Cell.{Cell}
use Rattle.dict_meaning.specs.Accepted.{Accepted}
use Rattle.dict_meaning.specs.Plain.{plain}
use Rattle.dictionary.specs.Engines.{Marks}
use Rattle.evaluation.specs.Results.{slot}
use Rattle.recalc.specs.EngineInvariant.{EngineInvariant, IsGraphOf, marks_by, results_of, stamp_in}
use Rattle.recalc.specs.Running.{stamped_cell}
use Rattle.recalc.specs.declared.dependency_graph.DependencyGraph.{DependencyGraph}
use Rattle.recalc.specs.declared.engine_cells.EngineCells.{EngineCells}
use Rattle.recalc.specs.declared.engine_cells.EngineCells.TheVariants.{Own, Shared}
use Rattle.recalc.specs.declared.engine_cells.OwnCells.{OwnCells}
use Rattle.recalc.specs.declared.recalc.Recalc.{Recalc}
use Rattle.recalc.specs.declared.start_cells.StartCells.{StartCells}

-- these are the cells at answers before any change: their results, and no stamp
pub record AreFirst (d : Accepted) (a : Answered) (cells : Cells) : Type 0 where
  pub results : (s : Slot) → results_of cells s ≡ plain d a s
  pub stamps : (s : Slot) → stamp_in cells s ≡ 0

-- those at no answers
abbrev pub AreAtStart : Accepted → Cells → Type 0
AreAtStart d cells = AreFirst d start cells

-- so are those that an engine with cells of its own keeps for further ones, if it keeps any
abbrev pub AreKept : Accepted → OwnCells → Type 0
AreKept d own = IfSome own.at_start (λ store. AreAtStart d store.value.cells)

-- ---- the cells of an engine

-- those that are read
abbrev pub read_cells : EngineCells → Cells
read_cells (Shared at_start) = at_start.value.cells
read_cells (Own own) = own.state.store.cells

-- an engine that reads shared cells is at no answers
pub record AreShared (cells : Cells) (g : DependencyGraph) (d : Accepted) (a : Answered) : Type 0 where
  pub graph : IsGraphOf d g
  pub unanswered : a ≡ start
  pub at_start : AreAtStart d cells

-- one with cells of its own has those of the answers
pub record AreOwn (own : OwnCells) (g : DependencyGraph) (d : Accepted) (a : Answered) : Type 0 where
  pub engine : EngineInvariant g own.state d a
  pub are_kept : AreKept d own

abbrev pub AreCellsOf : EngineCells → DependencyGraph → Accepted → Answered → Type 0
AreCellsOf (Shared at_start) g d a = AreShared at_start.value.cells g d a
AreCellsOf (Own own) g d a = AreOwn own g d a

-- an engine has the results of a dictionary over answers
abbrev pub StandsFor : Recalc → Accepted → Answered → Type 0
StandsFor e d a = AreCellsOf e.cells e.graph.value d a

-- what it counts
abbrev pub marks_of : Recalc → Marks
marks_of e = marks_by e.changes (read_cells e.cells) e.touched

-- ---- how cells are filled

-- the graph is that of the facts, and no cell has a stamp
pub record AreReady (t : StartCells) (d : Accepted) : Type 0 where
  pub graph : IsGraphOf d t.graph.now
  pub stamps : (s : Slot) → stamp_in t.store.cells s ≡ 0

-- ---- how cells are copied

-- with this result at the slot, if there is one
abbrev pub with_result_of : Cells → Slot → Option Res → Cells
with_result_of cells s None = cells
with_result_of cells s (Some r) = finite.insert cells s (stamped_cell 0 r)

abbrev pub new_or : Option Res → Option Cell → Option Cell
new_or None o = o
new_or (Some r) o = Some (stamped_cell 0 r)

-- the cells, with the results of others put over them at the slots of these global facts
abbrev pub with_copies : Cells → List ℕ → Cells → Slot → Option Cell
with_copies from facts cells s = if nat_eq s.member 0 && list_any (nat_eq s.fact) facts then new_or (results_of from s) (finite.get cells s) else finite.get cells s

abbrev pub global : ℕ → Slot
global f = slot f 0
