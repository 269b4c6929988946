-- What an engine has between commands.
use Rattle.std.specs.Prelude.{◌≡◌, ℕ, false, List, [], Option, option_map, unwrap_or, nat_eq, ◌&&◌, if◌then◌else◌, Some, None}
use Rattle.std.specs.List.{list_any}
use Rattle.std.specs.FinMap as finite
use Rattle.fact_values.specs.declared.slot.Slot.{Slot}
use Rattle.answers.specs.Answered.{Answered}
use Rattle.cell_store.specs.Contents.{Cells}
use Rattle.cell_store.specs.declared.cell.Cell.{Cell}
use Rattle.dep_index.specs.Readers.{IsIndex}
use Rattle.dict_meaning.specs.Accepted.{Accepted}
use Rattle.dict_meaning.specs.Plain.{plain}
use Rattle.evaluation.specs.Results.{Results}
use Rattle.node_compile.specs.Compiled.{IsCompiled}
use Rattle.answers.specs.Change.{Change}
use Rattle.dictionary.specs.Engines.{Marks}
use Rattle.dict_meaning.specs.Undone.{is_extended}
use Rattle.recalc.specs.PlacedReaders.{AllArePlaced}
use Rattle.recalc.specs.Replacing.{entries}
use Rattle.recalc.specs.Running.{ChangeSetting}
use Rattle.dirty_slots.specs.Waiting.{waits}
use Rattle.recalc.specs.declared.dependency_graph.DependencyGraph.{DependencyGraph}
use Rattle.dirty_slots.specs.declared.dirty_slot.DirtySlot.{DirtySlot}
use Rattle.recalc.specs.declared.engine_state.EngineState.{EngineState}

abbrev pub results_of : Cells → Results
results_of cells s = option_map (λ c. c.res) (finite.get cells s)

-- 0 where there is no cell
abbrev pub stamp_in : Cells → Slot → ℕ
stamp_in cells s = unwrap_or (option_map (λ c. c.stamp) (finite.get cells s)) 0

-- the nodes and the readers of the dictionary's facts, the readers also as places of the queue
pub record IsGraphOf (d : Accepted) (g : DependencyGraph) : Type 0 where
  pub compiled : IsCompiled d.tree g.nodes
  pub index : IsIndex d g.readers
  pub placed : AllArePlaced d g.places.value g.readers g.placed.items

-- nothing waits, and nothing is to be put back
pub record IsIdle (w : EngineState) : Type 0 where
  pub none_waits : (q : DirtySlot) → waits w.queue q ≡ false
  pub nothing_kept : entries w.log ≡ []

-- It is over the dictionary's facts and the graph's places, and has the cells of the answers: the result of each slot that stands,
-- and no other cell.
pub record EngineInvariant (g : DependencyGraph) (w : EngineState) (d : Accepted) (a : Answered) : Type 0 where
  pub graph : IsGraphOf d g
  pub results : (s : Slot) → results_of w.store.cells s ≡ plain d a s
  pub idle : IsIdle w
  pub places : w.queue.places ≡ g.places.value

-- the cells but for those of a member at these facts
abbrev pub without_member : Cells → ℕ → List ℕ → Slot → Option Cell
without_member cells member facts s = if nat_eq s.member member && list_any (nat_eq s.fact) facts then None else finite.get cells s

-- of a member that went, if one did
abbrev pub without_gone : Cells → Option ℕ → List ℕ → Slot → Option Cell
without_gone cells None facts s = finite.get cells s
without_gone cells (Some member) facts s = without_member cells member facts s

-- ---- the loop's setting at a change

abbrev pub setting_from : Accepted → Change → Answered → Option ℕ → ℕ → ChangeSetting
setting_from d undo now gone stamp = record { dict = d; now = now; extended = is_extended undo now; gone = gone; stamp = stamp }

-- ---- what is counted

abbrev pub marks_by : ℕ → Cells → ℕ → Marks
marks_by changes cells touched = record { changes = changes; stamps = stamp_in cells; touched = touched }
