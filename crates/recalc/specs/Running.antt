-- What the loop over the slots that wait keeps of its queue, its log and its cells.
use Rattle.std.specs.Prelude.{◌≡◌, ◌≤◌, ℕ, Bool, false, not, ◌&&◌, ◌||◌, nat_eq, IsTrue, if◌then◌else◌, List, [], ◌∷◌, ◌++◌, sum_by, Option, Some, None, option_map}
use Rattle.std.specs.FinMap as finite
use Rattle.fact_values.specs.declared.slot.Slot.{Slot}
use Rattle.three_state.specs.declared.res.Res.{Res}
use Rattle.answers.specs.Answered.{Answered}
use Rattle.cell_store.specs.Contents.{Cells}
use Rattle.cell_store.specs.Places.{put_at}
use Rattle.cell_store.specs.declared.cell.Cell.{Cell}
use Rattle.dict_meaning.specs.Accepted.{Accepted, IsAccepted}
use Rattle.dep_index.specs.declared.readers_of.ReaderOf.{ReaderOf}
use Rattle.dict_meaning.specs.Plain.{plain, rank}
use Rattle.evaluation.specs.Results.{Results, slot}
use Rattle.dict_meaning.specs.Slots.{stands}
use Rattle.dict_meaning.specs.Weights.{slot_weight}
use Rattle.visit_counts.specs.SlotVisits.{slot_visits}
use Rattle.recalc.specs.Laws.{touched_of}
use Rattle.recalc.specs.Spread.{Spread, is_in}
use Rattle.recalc.specs.Marking.{IsMarked}
use Rattle.recalc.specs.Transitions.{IsTransition, is_shielded, moves}
use Rattle.recalc.specs.Readers.{dirty_of, marks, marks_of}
use Rattle.recalc.specs.Replacing.{entries, slots_of}
use Rattle.dirty_slots.specs.Waiting.{dirty_same, Queue, waits}
use Rattle.dirty_slots.specs.declared.dirty_slot.DirtySlot.{DirtySlot}
use Rattle.recalc.specs.declared.engine_state.EngineState.{EngineState}

-- ---- what waits, as slots

-- the slot waits
abbrev pub waits_in : Accepted → Queue → Slot → Bool
waits_in d queue s = waits queue (dirty_of d s)

abbrev pub slot_of : DirtySlot → Slot
slot_of q = slot q.fact q.member

-- what waits has the rank of its fact
abbrev pub AreRanked : Accepted → Queue → Type 0
AreRanked d queue = (q : DirtySlot) → IsTrue (waits queue q) → q.rank ≡ rank d q.fact

-- exactly the slots that pass a test wait
pub record AreWaiting (d : Accepted) (queue : Queue) (test : Slot → Bool) : Type 0 where
  pub slots : (s : Slot) → waits_in d queue s ≡ test s
  pub ranked : AreRanked d queue

-- of these, one of the lowest rank was taken out
pub record IsPopped (queue left : Queue) (dirty : DirtySlot) : Type 0 where
  pub some : IsTrue (waits queue dirty)
  pub rest : (q : DirtySlot) → waits left q ≡ (waits queue q && not (dirty_same q dirty))
  pub least : (q : DirtySlot) → IsTrue (waits queue q) → dirty.rank ≤ q.rank

-- ---- the results of the cells

-- it is this member
abbrev pub is_that : Option ℕ → ℕ → Bool
is_that None m = false
is_that (Some n) m = nat_eq m n

-- but for those of a member that went
abbrev pub live_results : Option ℕ → Cells → Results
live_results gone cells s = if is_that gone s.member then None else option_map (λ c. c.res) (finite.get cells s)

abbrev pub stamped_cell : ℕ → Res → Cell
stamped_cell stamp r = record { res = r; stamp = stamp }

-- the slots done have a cell with their new result and this stamp, the others the one that they had
abbrev pub AreCells : Accepted → Answered → ℕ → Cells → List Slot → Cells → Type 0
AreCells d b stamp first done cells =
    (s : Slot) → finite.get cells s ≡ (if is_in done s then option_map (stamped_cell stamp) (plain d b s) else finite.get first s)

-- ---- the loop

-- what doesn't change in it: to which answers it leads, whether they extend those before, which member went, and the stamp
pub record ChangeSetting : Type 0 where
  pub dict : Accepted
  pub now : Answered
  pub extended : Bool
  pub gone : Option ℕ
  pub stamp : ℕ

abbrev pub live_results_in : ChangeSetting → Cells → Results
live_results_in k cells = live_results k.gone cells

-- the change spreads so from the results of these cells, and no slot that stands is of the member that went
pub record IsPropagation (k : ChangeSetting) (c : Spread) (first : Cells) : Type 0 where
  pub names : List (List ℕ)
  pub accepted : IsAccepted names k.dict
  pub transition : IsTransition k.dict k.now k.extended (live_results_in k first) c
  pub stay : (s : Slot) → IsTrue (stands k.dict.tree k.now s) → is_that k.gone s.member ≡ false

-- the slots done so far
abbrev pub slots_done : EngineState → List Slot
slots_done w = slots_of (entries w.log)

-- what the loop keeps
pub record IsRunning (k : ChangeSetting) (c : Spread) (first : Cells) (w : EngineState) : Type 0 where
  pub marked : IsMarked c (slots_done w) (waits_in k.dict w.queue)
  pub ranked : AreRanked k.dict w.queue
  pub kept : AreCells k.dict k.now k.stamp first (slots_done w) w.store.cells

-- the cells with the slot's new result
abbrev pub put_now : ChangeSetting → Cells → Slot → Cells
put_now k cells s = put_at cells s (option_map (stamped_cell k.stamp) (plain k.dict k.now s))

-- what all that the change touches weighs, and the nodes that its evaluation visits
abbrev pub propagation_weight : ChangeSetting → Spread → ℕ
propagation_weight k c = sum_by (slot_weight k.dict k.now) (touched_of c)

abbrev pub propagation_visits : ChangeSetting → Spread → ℕ
propagation_visits k c = sum_by (slot_visits k.dict k.now) (touched_of c)

-- the slots that are shielded, and which slots a reader or all of these let wait
abbrev pub shielded_in : ChangeSetting → Cells → Slot → Bool
shielded_in k cells = is_shielded k.extended k.dict k.now (live_results_in k cells)

abbrev pub let_by : ChangeSetting → Cells → Slot → DirtySlot → ReaderOf → Bool
let_by k cells s q r = marks_of k.dict k.now (shielded_in k cells) s q r

abbrev pub let_by_all : ChangeSetting → Cells → Slot → List ReaderOf → DirtySlot → Bool
let_by_all k cells s rs q = marks k.dict k.now (shielded_in k cells) s rs q

-- if the slot moved
abbrev pub marks_now : ChangeSetting → List ReaderOf → Cells → Cells → Slot → DirtySlot → Bool
marks_now k rs old new s q = moves (live_results_in k old s) (plain k.dict k.now s) && let_by_all k new s rs q

-- what a turn does: it puts the slot's new result, and lets the readers wait
pub record HasTurned (k : ChangeSetting) (rs : List ReaderOf) (s : Slot) (w w' : EngineState) : Type 0 where
  pub put : w'.store.cells ≡ put_now k w.store.cells s
  pub kept : entries w'.log ≡ entries w.log ++ record { slot = s; cell = finite.get w.store.cells s } ∷ []
  pub marked : (q : DirtySlot) → waits w'.queue q ≡ (waits w.queue q || marks_now k rs w.store.cells w'.store.cells s q)

-- what it leaves: nothing waits, and all results are new
pub record HasRun (k : ChangeSetting) (c : Spread) (first : Cells) (w : EngineState) : Type 0 where
  pub running : IsRunning k c first w
  pub none : (q : DirtySlot) → waits w.queue q ≡ false
  pub results : (s : Slot) → live_results_in k w.store.cells s ≡ plain k.dict k.now s
