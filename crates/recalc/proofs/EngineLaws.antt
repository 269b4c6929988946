-- From the cells that stand for answers, the loop leads to those that stand for the answers after a change.
use Rattle.std.proofs.Common.{◌≡◌, ℕ, Bool, true, false, not, ◌&&◌, nat_eq, if◌then◌else◌, IsTrue, List, [], length, Option, Some, None, option_map, is_some, unwrap_or, refl, sym, ap, subst, ◌∙◌}
use Rattle.std.specs.List.{list_any}
use Rattle.std.specs.FinMap as finite
use Rattle.std.proofs.lemmas.Bool.{not-false}
use Rattle.std.proofs.lemmas.List.{length-map}
use Rattle.fact_values.specs.declared.slot.Slot.{Slot}
use Rattle.three_state.specs.declared.res.Res.{Res}
use Rattle.answers.specs.Answered.{Answered}
use Rattle.answers.specs.Change.{Change, adds, puts_back, applied}
use Rattle.cell_store.specs.Contents.{Cells}
use Rattle.cell_store.specs.declared.cell.Cell.{Cell}
use Rattle.dict_meaning.specs.Accepted.{Accepted, IsAccepted}
use Rattle.dictionary.specs.ByRank.{AreByRank}
use Rattle.dict_meaning.specs.Plain.{plain}
use Rattle.dict_meaning.specs.Slots.{stands}
use Rattle.dict_meaning.specs.Touched.{stamped, touched_count}
use Rattle.dict_meaning.specs.Undone.{came, is_touched_first, IsUndone, went}
use Rattle.dict_meaning.specs.Weights.{slot_weight, touched_weight}
use Rattle.dict_meaning.proofs.PlainLaws.{standing_have_results}
use Rattle.dict_meaning.proofs.UndoneLaws.{came_tells, went_tells}
use Rattle.visit_counts.specs.SlotVisits.{slot_visits, touched_visits}
use Rattle.recalc.specs.BetweenAnswers.{between, results_before}
use Rattle.recalc.specs.Marking.{IsMarked}
use Rattle.recalc.specs.Replacing.{entries, slots_of}
use Rattle.recalc.specs.Running.{AreCells, AreRanked, AreWaiting, propagation_visits, propagation_weight, HasRun, IsPropagation, IsRunning, is_that, live_results, ChangeSetting, slots_done, stamped_cell, waits_in}
use Rattle.recalc.specs.Spread.{is_in, Spread}
use Rattle.recalc.specs.EngineInvariant.{results_of, setting_from, stamp_in, without_gone}
use Rattle.dirty_slots.specs.Waiting.{Queue}
use Rattle.recalc.specs.declared.engine_state.EngineState.{EngineState}
use Rattle.recalc.specs.declared.log.Replaced.{Replaced}
use Rattle.recalc.proofs.BetweenLaws.{all_is_done, are_between, edit_marks, touched_weigh, undone_passes}
use Rattle.dict_meaning.proofs.PlainLaws.{no_result}
use Rattle.recalc.proofs.SeedingLaws.{standing_in}

abbrev stamp_of : Option Cell → ℕ
stamp_of o = unwrap_or (option_map (λ (c : Cell). c.stamp) o) 0

-- ---- no cell

no_results : (o : Option Cell) → option_map (λ (c : Cell). c.res) o ≡ None → o ≡ None
no_results None h = refl
no_results (Some c) h = absurd (cc)

-- ---- where nothing is done yet

begins : (k : ChangeSetting) (c : Spread) (state : EngineState) → entries state.log ≡ [] → IsMarked c [] (waits_in k.dict state.queue) → AreRanked k.dict state.queue
    → IsRunning k c state.store.cells state
begins k c state none marked ranked = record {
  marked = subst (λ (log : List Replaced). IsMarked c (slots_of log) (waits_in k.dict state.queue)) (sym none) marked;
  ranked = ranked;
  kept = subst (λ (log : List Replaced). AreCells k.dict k.now k.stamp state.store.cells (slots_of log) state.store.cells) (sym none) (λ s. refl);
}

-- ---- a change

-- where a member went, none came
none_came : (undo : Change) (now : Answered) (m n : ℕ) → went undo now m ≡ true → came undo now n ≡ false
none_came (adds c) now m n h = refl
none_came (puts_back c place k e) now m n h = refl
none_came _ now m n h = absurd (cc)

module _ (names : List (List ℕ)) (d : Accepted) (accepted : IsAccepted names d) (undo : Change) (now : Answered) (u : IsUndone d undo now)
    (gone : Option ℕ) (is : (m : ℕ) → is_that gone m ≡ went undo now m) (stamp : ℕ) (old : EngineState) (results : (s : Slot) → results_of old.store.cells s ≡ plain d (applied undo now) s) where
  -- no slot that stands is of the member that went
  stays : (s : Slot) → IsTrue (stands d.tree now s) → is_that gone s.member ≡ false
  stays s there = is s.member ∙ at (went undo now s.member) refl
    where
      at : (x : Bool) → went undo now s.member ≡ x → x ≡ false
      at false e = refl
      at true e =
          let stood : stands d.tree (applied undo now) s ≡ true = not-false (stands d.tree (applied undo now) s) (came_tells d undo now u s there ∙ none_came undo now s.member s.member e) in
          sym e ∙ sym (went_tells d undo now u s stood) ∙ ap not there

  before : (s : Slot) → live_results gone old.store.cells s ≡ results_before d (applied undo now) now s
  before s = at (stands d.tree now s) refl (stands d.tree (applied undo now) s) refl
    where
      hidden : (y : Bool) → results_of old.store.cells s ≡ None → (if y then None else results_of old.store.cells s) ≡ None
      hidden true h = refl
      hidden false h = h

      at : (x : Bool) → stands d.tree now s ≡ x → (y : Bool) → stands d.tree (applied undo now) s ≡ y → live_results gone old.store.cells s ≡ (if x then plain d (applied undo now) s else None)
      at true e y f = ap (λ z. if z then None else results_of old.store.cells s) (stays s e) ∙ results s
      at false e true f = ap (λ z. if z then None else results_of old.store.cells s) (is s.member ∙ sym (went_tells d undo now u s f) ∙ ap not e)
      at false e false f = hidden (is_that gone s.member) (results s ∙ no_result d (applied undo now) s f)

  pub change_propagation : IsPropagation (setting_from d undo now gone stamp) (between d (applied undo now) now) old.store.cells
  change_propagation = record {
    names = names;
    accepted = accepted;
    transition = undone_passes names d accepted undo now u (live_results gone old.store.cells) before;
    stay = stays;
  }

  pub change_running : entries old.log ≡ [] → (queue : Queue) → AreWaiting d queue (λ s. stands d.tree now s && is_touched_first undo now s)
      → IsRunning (setting_from d undo now gone stamp) (between d (applied undo now) now) old.store.cells (record old { queue = queue })
  change_running none queue w =
      begins (setting_from d undo now gone stamp) (between d (applied undo now) now) (record old { queue = queue }) none
      (edit_marks names d accepted undo now u (waits_in d queue) w.slots) w.ranked

  pub change_weight : propagation_weight (setting_from d undo now gone stamp) (between d (applied undo now) now) ≡ touched_weight d (applied undo now) now
  change_weight = touched_weigh d (applied undo now) now (slot_weight d now)

  pub change_visits : propagation_visits (setting_from d undo now gone stamp) (between d (applied undo now) now) ≡ touched_visits d (applied undo now) now
  change_visits = touched_weigh d (applied undo now) now (slot_visits d now)

  -- ---- once it is made

  module _ (state : EngineState) (run : HasRun (setting_from d undo now gone stamp) (between d (applied undo now) now) old.store.cells state)
      (order : List ℕ) (by_rank : AreByRank d.ranks order) (left : Cells) (forgot : (s : Slot) → finite.get left s ≡ without_gone state.store.cells gone order s) where
    -- a cell of the member that went is at one of the facts
    at_facts : (s : Slot) → is_that gone s.member ≡ true → list_any (nat_eq s.fact) order ≡ false → finite.get state.store.cells s ≡ None
    at_facts s e out = run.running.kept s ∙ at (is_in (slots_done state) s) refl
      where
        stood : (x : Bool) → stands d.tree (applied undo now) s ≡ x → finite.get old.store.cells s ≡ None
        stood true f = absurd (let h : list_any (nat_eq s.fact) order ≡ true = standing_in names d accepted order by_rank (applied undo now) s f in cc)
        stood false f = no_results (finite.get old.store.cells s) (results s ∙ no_result d (applied undo now) s f)

        at : (x : Bool) → is_in (slots_done state) s ≡ x → (if x then option_map (stamped_cell stamp) (plain d now s) else finite.get old.store.cells s) ≡ None
        at true f = absurd (let there : stands d.tree now s ≡ true = (run.running.marked.right s f).0 in let h : is_that gone s.member ≡ false = stays s there in cc)
        at false f = stood (stands d.tree (applied undo now) s) refl

    left_seen : (g : Option ℕ) (s : Slot) → (is_that g s.member ≡ true → list_any (nat_eq s.fact) order ≡ false → finite.get state.store.cells s ≡ None)
        → option_map (λ (c : Cell). c.res) (without_gone state.store.cells g order s) ≡ live_results g state.store.cells s
    left_seen None s h = refl
    left_seen (Some m) s h = at (nat_eq s.member m) (list_any (nat_eq s.fact) order) refl refl
      where
        at : (x y : Bool) → nat_eq s.member m ≡ x → list_any (nat_eq s.fact) order ≡ y
            → option_map (λ (c : Cell). c.res) (if x && y then None else finite.get state.store.cells s) ≡ (if x then None else option_map (λ (c : Cell). c.res) (finite.get state.store.cells s))
        at true true e f = refl
        at true false e f = ap (option_map (λ (c : Cell). c.res)) (h e f)
        at false y e f = refl

    -- all results are new, and there is a cell for each slot that stands, and no other
    pub changed_results : (s : Slot) → results_of left s ≡ plain d now s
    changed_results s = ap (option_map (λ (c : Cell). c.res)) (forgot s) ∙ left_seen gone s (at_facts s) ∙ run.results s

    staying : (g : Option ℕ) (s : Slot) → is_that g s.member ≡ false → without_gone state.store.cells g order s ≡ finite.get state.store.cells s
    staying None s h = refl
    staying (Some m) s h = ap (λ x. if x && list_any (nat_eq s.fact) order then None else finite.get state.store.cells s) h

    -- the stamps are those of the change where it touched the slot, and else as before
    pub changed_stamps : (s : Slot) → IsTrue (stands d.tree now s) → stamp_in left s ≡ stamped d (applied undo now) now stamp (stamp_in old.store.cells) s
    changed_stamps s there =
        ap stamp_of (forgot s ∙ staying gone s (stays s there) ∙ run.running.kept s)
        ∙ at (is_in (slots_done state) s) (plain d now s) (standing_have_results d now s ∙ there)
        ∙ (all_is_done names d (applied undo now) now (are_between names d accepted undo now u) (slots_done state) (waits_in d state.queue) run.running.marked (λ t. run.none _)).stamps stamp (stamp_in old.store.cells) s there
      where
        at : (x : Bool) (o : Option Res) → is_some o ≡ true → stamp_of (if x then option_map (stamped_cell stamp) o else finite.get old.store.cells s) ≡ (if x then stamp else stamp_in old.store.cells s)
        at true (Some r) h = refl
        at true None h = absurd (cc)
        at false o h = refl

    -- and so many slots were touched
    pub changed_count : length (entries state.log) ≡ touched_count d (applied undo now) now
    changed_count =
        sym (length-map (entries state.log) (λ (e : Replaced). e.slot))
        ∙ (all_is_done names d (applied undo now) now (are_between names d accepted undo now u) (slots_done state) (waits_in d state.queue) run.running.marked (λ t. run.none _)).count

-- ---- what is answered between changes

-- a slot has a stamp exactly where it stands
pub stamp_where : (d : Accepted) (a : Answered) (cells : Cells) (s : Slot) → results_of cells s ≡ plain d a s
    → option_map (λ (c : Cell). c.stamp) (finite.get cells s) ≡ (if stands d.tree a s then Some (stamp_in cells s) else None)
stamp_where d a cells s is = at (finite.get cells s) (stands d.tree a s) (ap is_some is ∙ standing_have_results d a s)
  where
    at : (o : Option Cell) (x : Bool) → is_some (option_map (λ (c : Cell). c.res) o) ≡ x → option_map (λ (c : Cell). c.stamp) o ≡ (if x then Some (stamp_of o) else None)
    at None true h = absurd (cc)
    at None false h = refl
    at (Some c) true h = refl
    at (Some c) false h = absurd (cc)
