-- What one turn does to the cells, the log and the queue.
use Rattle.std.proofs.Common.{◌≡◌, ℕ, Bool, false, ◌&&◌, ◌||◌, if◌then◌else◌, List, [], ◌∷◌, ◌++◌, Option, Some, None, option_map, refl, sym, ap, ◌∙◌}
use Rattle.std.specs.FinMap as finite
use Rattle.fact_values.specs.declared.slot.Slot.{Slot}
use Rattle.three_state.specs.declared.res.Res.{Res}
use Rattle.cell_store.specs.Contents.{Cells, has_other}
use Rattle.cell_store.specs.Places.{put_at}
use Rattle.cell_store.specs.declared.cell.Cell.{Cell}
use Rattle.dep_index.specs.declared.readers_of.ReaderOf.{ReaderOf}
use Rattle.dict_meaning.specs.Plain.{plain}
use Rattle.recalc.specs.Replacing.{entries}
use Rattle.recalc.specs.Running.{HasTurned, is_that, let_by_all, live_results, live_results_in, ChangeSetting, stamped_cell}
use Rattle.recalc.specs.Transitions.{moves}
use Rattle.dirty_slots.specs.Waiting.{waits}
use Rattle.dirty_slots.specs.declared.dirty_slot.DirtySlot.{DirtySlot}
use Rattle.recalc.specs.declared.engine_state.EngineState.{EngineState}

-- a live slot moves where its cell had another result
moves_live : (gone : Option ℕ) (cells : Cells) (s : Slot) (r : Res) → is_that gone s.member ≡ false → moves (live_results gone cells s) (Some r) ≡ has_other (finite.get cells s) r
moves_live gone cells s r live = ap (λ (b : Bool). moves (if b then None else option_map (λ (c : Cell). c.res) (finite.get cells s)) (Some r)) live ∙ at (finite.get cells s)
  where
    at : (o : Option Cell) → moves (option_map (λ (c : Cell). c.res) o) (Some r) ≡ has_other o r
    at None = refl
    at (Some c) = refl

pub has_turned : (k : ChangeSetting) (rs : List ReaderOf) (s : Slot) (old new : EngineState) (r : Res) (moved : Bool)
    → Some r ≡ plain k.dict k.now s → is_that k.gone s.member ≡ false
    → new.store.cells ≡ finite.insert old.store.cells s (record { res = r; stamp = k.stamp })
    → entries new.log ≡ entries old.log ++ record { slot = s; cell = finite.get old.store.cells s } ∷ []
    → moved ≡ has_other (finite.get old.store.cells s) r
    → ((q : DirtySlot) → waits new.queue q ≡ (waits old.queue q || (moved && let_by_all k new.store.cells s rs q)))
    → HasTurned k rs s old new
has_turned k rs s old new r moved is live put kept told marks = record {
  put = put ∙ ap (λ (o : Option Res). put_at old.store.cells s (option_map (stamped_cell k.stamp) o)) is;
  kept = kept;
  marked = λ q. marks q
      ∙ ap (λ (b : Bool). waits old.queue q || (b && let_by_all k new.store.cells s rs q))
      (told ∙ sym (moves_live k.gone old.store.cells s r live) ∙ ap (moves (live_results_in k old.store.cells s)) is);
}
