-- Turn by turn, the loop keeps its queue, its log and its cells in step.
use Rattle.std.proofs.Common.{◌≡◌, ◌≤◌, ◌<◌, ℕ, ◌+◌, ◌-◌, Bool, true, false, cond, not, ◌&&◌, ◌||◌, nat_eq, if◌then◌else◌, IsTrue, List, [], ◌∷◌, ◌++◌, length, sum_by, Option, Some, None, option_map, refl, sym, ap, subst, ◌∙◌, arith}
use Rattle.std.specs.FinMap as finite
use Rattle.std.proofs.lemmas.List.{length-append, length-map}
use Rattle.std.proofs.lemmas.List.Sums.{sum_by-append, sum_by-cons}
use Rattle.common_lemmas.proofs.Bools.{both_left, both_right}
use Rattle.common_lemmas.proofs.Numbers.{equal_number, nat_eq-comm, same_number}
use Rattle.fact_values.specs.declared.slot.Slot.{Slot}
use Rattle.three_state.specs.declared.res.Res.{Res}
use Rattle.dict_source.specs.Finding.{IsNumber}
use Rattle.cell_store.specs.Contents.{Cells}
use Rattle.cell_store.specs.declared.cell.Cell.{Cell}
use Rattle.cell_store.proofs.SlotLaws.{get_put_at}
use Rattle.dep_index.specs.Readers.{AreReaders}
use Rattle.dep_index.specs.declared.readers_of.ReaderOf.{ReaderOf}
use Rattle.dict_meaning.specs.Accepted.{Accepted}
use Rattle.dict_meaning.specs.Feeds.{feeds}
use Rattle.dict_meaning.specs.Plain.{IsPlainBelow, plain, rank}
use Rattle.dict_meaning.specs.Slots.{slot_same, stands}
use Rattle.dict_meaning.specs.Weights.{slot_weight}
use Rattle.dict_meaning.proofs.SlotLaws.{slot_same-equal}
use Rattle.visit_counts.specs.SlotVisits.{slot_visits}
use Rattle.recalc.specs.Laws.{touched_of}
use Rattle.recalc.specs.Marking.{IsLeast, IsMarked, IsNext}
use Rattle.recalc.specs.Transitions.{AreResults, is_shielded, moves}
use Rattle.recalc.specs.Readers.{dirty_of, marks}
use Rattle.recalc.specs.Replacing.{entries, slots_of}
use Rattle.recalc.specs.Running.{AreCells, propagation_visits, propagation_weight, HasTurned, IsPropagation, IsPopped, IsRunning, is_that, marks_now, live_results_in, ChangeSetting, slot_of, slots_done, stamped_cell, waits_in}
use Rattle.recalc.specs.Spread.{is_in, Spread}
use Rattle.dirty_slots.specs.Waiting.{dirty_same, Queue, waits}
use Rattle.recalc.specs.declared.log.Replaced.{Replaced}
use Rattle.dirty_slots.specs.declared.dirty_slot.DirtySlot.{DirtySlot}
use Rattle.recalc.specs.declared.engine_state.EngineState.{EngineState}
use Rattle.dirty_slots.proofs.DirtyLaws.{dirty_turn}
use Rattle.recalc.proofs.MarkingLaws.{turn_marks}
use Rattle.recalc.proofs.TransitionLaws.{all_new, feeds_now, new_below, number_of_standing, turn_keeps_results}
use Rattle.recalc.proofs.ReaderLaws.{marks_feed, marks_rank}
use Rattle.recalc.proofs.ReplacingLaws.{slots_push}
use Rattle.recalc.proofs.SlotLists.{either, in_push}
use Rattle.recalc.proofs.WeighingLaws.{done_weigh_all, done_weigh_less, length_is}

-- ---- cells and the results that are live

unstamped : (stamp : ℕ) (o : Option Res) → option_map (λ (c : Cell). c.res) (option_map (stamped_cell stamp) o) ≡ o
unstamped stamp None = refl
unstamped stamp (Some r) = refl

-- what was taken out is the slot's, where it has the rank of its fact
pub same_tests : (ranks facts members : Bool) → (facts ≡ true → ranks ≡ true) → (ranks && (facts && members)) ≡ (facts && members)
same_tests true facts members h = refl
same_tests false true members h = absurd (let k : false ≡ true = h refl in cc)
same_tests false false members h = refl

pub dirty_is : (d : Accepted) (dirty : DirtySlot) → dirty.rank ≡ rank d dirty.fact → (q : Slot) → dirty_same dirty (dirty_of d q) ≡ slot_same q (slot_of dirty)
dirty_is d dirty ranked q =
    same_tests (nat_eq dirty.rank (rank d q.fact)) (nat_eq dirty.fact q.fact) (nat_eq dirty.member q.member)
    (λ e. ap (λ n. nat_eq n (rank d q.fact)) (ranked ∙ ap (rank d) (same_number dirty.fact q.fact e)) ∙ equal_number (rank d q.fact))
    ∙ ap (λ x. x && nat_eq dirty.member q.member) (nat_eq-comm dirty.fact q.fact)
    ∙ ap (λ x. nat_eq q.fact dirty.fact && x) (nat_eq-comm dirty.member q.member)

-- one slot more, by any measure
pushed : (w : Slot → ℕ) (ss : List Slot) (s : Slot) → sum_by w (ss ++ s ∷ []) ≡ sum_by w ss + w s
pushed w ss s =
    let e : sum_by w (ss ++ s ∷ []) ≡ sum_by w ss + sum_by w (s ∷ []) = sum_by-append w ss (s ∷ []) in
    let f : sum_by w (s ∷ []) ≡ w s + 0 = sum_by-cons w s [] in
    omega (arith, e, f)

module _ (k : ChangeSetting) (c : Spread) (first : Cells) (propagation : IsPropagation k c first) (state : EngineState) (run : IsRunning k c first state) where
  stands_done : (s : Slot) → IsTrue (is_in (slots_done state) s) → IsTrue (stands k.dict.tree k.now s)
  stands_done s i = sym (propagation.transition.there s) ∙ (run.marked.right s i).0

  -- those done have their new result
  pub are_results : AreResults k.dict k.now (live_results_in k first) (slots_done state) (live_results_in k state.store.cells)
  are_results s = at (is_in (slots_done state) s) refl
    where
      at : (x : Bool) → is_in (slots_done state) s ≡ x → live_results_in k state.store.cells s ≡ (if x then plain k.dict k.now s else live_results_in k first s)
      at true e =
          ap (λ y. if y then None else option_map (λ (t : Cell). t.res) (finite.get state.store.cells s)) (propagation.stay s (stands_done s e))
          ∙ ap (option_map (λ (t : Cell). t.res)) (run.kept s ∙ ap (λ y. if y then option_map (stamped_cell k.stamp) (plain k.dict k.now s) else finite.get first s) e)
          ∙ unstamped k.stamp (plain k.dict k.now s)
      at false e =
          ap (λ (o : Option Cell). if is_that k.gone s.member then None else option_map (λ (t : Cell). t.res) o)
          (run.kept s ∙ ap (λ y. if y then option_map (stamped_cell k.stamp) (plain k.dict k.now s) else finite.get first s) e)

  -- ---- the slot that was taken out

  module _ (left : Queue) (dirty : DirtySlot) (pop : IsPopped state.queue left dirty) where
    same_dirty : dirty ≡ dirty_of k.dict (slot_of dirty)
    same_dirty = ap (λ n. record { rank = n; fact = dirty.fact; member = dirty.member }) (run.ranked dirty pop.some)

    pub popped_waits : IsTrue (waits_in k.dict state.queue (slot_of dirty))
    popped_waits = subst (λ q. IsTrue (waits state.queue q)) same_dirty pop.some

    pub popped_least : IsLeast c (waits_in k.dict state.queue) (c.rank (slot_of dirty))
    popped_least w on =
        let h : dirty.rank ≤ rank k.dict w.fact = pop.least (dirty_of k.dict w) on in
        omega (arith, h, propagation.transition.ranks w, propagation.transition.ranks (slot_of dirty), run.ranked dirty pop.some)

    pub popped_stands : IsTrue (stands k.dict.tree k.now (slot_of dirty))
    popped_stands = sym (propagation.transition.there (slot_of dirty)) ∙ (run.marked.only (slot_of dirty) popped_waits).0

    pub popped_number : IsNumber k.dict.tree.facts dirty.fact
    popped_number = number_of_standing k.dict k.now (slot_of dirty) popped_stands

    pub popped_new : is_in (slots_done state) (slot_of dirty) ≡ false
    popped_new = (run.marked.only (slot_of dirty) popped_waits).1

    -- the facts of lower rank have their new results
    pub popped_below : IsPlainBelow k.dict k.now (rank k.dict dirty.fact) (live_results_in k state.store.cells)
    popped_below =
        new_below k.dict k.now k.extended (live_results_in k first) c propagation.transition (slots_done state) (waits_in k.dict state.queue) run.marked
        (live_results_in k state.store.cells) are_results (slot_of dirty) popped_least

    -- ---- the steps

    within : sum_by (slot_weight k.dict k.now) (slots_done state ++ slot_of dirty ∷ []) ≤ propagation_weight k c
    within = (done_weigh_less c propagation.transition.spreads (slots_done state) (waits_in k.dict state.queue) run.marked (slot_weight k.dict k.now)).1 (slot_of dirty) popped_waits

    pub steps_within : (start before after : ℕ) → before ≤ start + sum_by (slot_weight k.dict k.now) (slots_done state) → after ≤ before + slot_weight k.dict k.now (slot_of dirty)
        → after ≤ start + propagation_weight k c
    steps_within start before after h l = omega (arith, h, l, pushed (slot_weight k.dict k.now) (slots_done state) (slot_of dirty), within)

    -- ---- once it is done

    module _ (rs : List ReaderOf) (are : AreReaders k.dict dirty.fact rs) (state' : EngineState)
        (turned : HasTurned k rs (slot_of dirty) (record state { queue = left }) state') where
      now_done : slots_done state' ≡ slots_done state ++ slot_of dirty ∷ []
      now_done = ap slots_of turned.kept ∙ slots_push (entries state.log) (record { slot = slot_of dirty; cell = finite.get state.store.cells (slot_of dirty) })

      -- by any measure what is done is more by the slot
      pub done_more : (w : Slot → ℕ) → sum_by w (slots_done state') ≡ sum_by w (slots_done state) + w (slot_of dirty)
      done_more w = ap (sum_by w) now_done ∙ pushed w (slots_done state) (slot_of dirty)

      -- the cells
      choose : (q : Slot) (x y : Bool) → slot_same q (slot_of dirty) ≡ x
          → cond x (option_map (stamped_cell k.stamp) (plain k.dict k.now (slot_of dirty))) (if y then option_map (stamped_cell k.stamp) (plain k.dict k.now q) else finite.get first q)
          ≡ (if y || x then option_map (stamped_cell k.stamp) (plain k.dict k.now q) else finite.get first q)
      choose q true true e = ap (λ t. option_map (stamped_cell k.stamp) (plain k.dict k.now t)) (sym (slot_same-equal q (slot_of dirty) e))
      choose q true false e = ap (λ t. option_map (stamped_cell k.stamp) (plain k.dict k.now t)) (sym (slot_same-equal q (slot_of dirty) e))
      choose q false true e = refl
      choose q false false e = refl

      cells_after : AreCells k.dict k.now k.stamp first (slots_done state') state'.store.cells
      cells_after q =
          ap (λ m. finite.get m q) turned.put
          ∙ get_put_at state.store.cells (slot_of dirty) (option_map (stamped_cell k.stamp) (plain k.dict k.now (slot_of dirty))) q
          ∙ ap (cond (slot_same q (slot_of dirty)) (option_map (stamped_cell k.stamp) (plain k.dict k.now (slot_of dirty)))) (run.kept q)
          ∙ choose q (slot_same q (slot_of dirty)) (is_in (slots_done state) q) refl
          ∙ ap (λ y. if y then option_map (stamped_cell k.stamp) (plain k.dict k.now q) else finite.get first q)
          (sym (ap (λ ss. is_in ss q) now_done ∙ in_push (slots_done state) (slot_of dirty) q))

      -- the results that are live
      put_seen : (q : Slot) → live_results_in k state'.store.cells q ≡ (if slot_same q (slot_of dirty) then plain k.dict k.now (slot_of dirty) else live_results_in k state.store.cells q)
      put_seen q =
          ap (λ m. live_results_in k m q) turned.put
          ∙ ap (λ (o : Option Cell). if is_that k.gone q.member then None else option_map (λ (t : Cell). t.res) o)
          (get_put_at state.store.cells (slot_of dirty) (option_map (stamped_cell k.stamp) (plain k.dict k.now (slot_of dirty))) q)
          ∙ at (slot_same q (slot_of dirty)) refl
        where
          at : (x : Bool) → slot_same q (slot_of dirty) ≡ x
              → (if is_that k.gone q.member then None else option_map (λ (t : Cell). t.res) (cond x (option_map (stamped_cell k.stamp) (plain k.dict k.now (slot_of dirty))) (finite.get state.store.cells q)))
              ≡ (if x then plain k.dict k.now (slot_of dirty) else live_results_in k state.store.cells q)
          at true e =
              ap (λ y. if y then None else option_map (λ (t : Cell). t.res) (option_map (stamped_cell k.stamp) (plain k.dict k.now (slot_of dirty))))
              (ap (λ (t : Slot). is_that k.gone t.member) (slot_same-equal q (slot_of dirty) e) ∙ propagation.stay (slot_of dirty) popped_stands)
              ∙ unstamped k.stamp (plain k.dict k.now (slot_of dirty))
          at false e = refl

      results_after : AreResults k.dict k.now (live_results_in k first) (slots_done state ++ slot_of dirty ∷ []) (live_results_in k state'.store.cells)
      results_after = turn_keeps_results k.dict k.now (live_results_in k first) (slots_done state) (live_results_in k state.store.cells) (live_results_in k state'.store.cells) are_results (slot_of dirty) put_seen

      -- what waits
      moved_now : moves (live_results_in k state.store.cells (slot_of dirty)) (plain k.dict k.now (slot_of dirty)) ≡ c.moved (slot_of dirty)
      moved_now =
          ap (λ o. moves o (plain k.dict k.now (slot_of dirty)))
          (are_results (slot_of dirty) ∙ ap (λ y. if y then plain k.dict k.now (slot_of dirty) else live_results_in k first (slot_of dirty)) popped_new)
          ∙ sym (propagation.transition.moved (slot_of dirty))

      next : IsNext c (waits_in k.dict state.queue) (slot_of dirty) (waits_in k.dict state'.queue)
      next q =
          turned.marked (dirty_of k.dict q)
          ∙ ap (λ x. x || marks_now k rs state.store.cells state'.store.cells (slot_of dirty) (dirty_of k.dict q))
          (pop.rest (dirty_of k.dict q) ∙ ap (λ x. waits state.queue (dirty_of k.dict q) && not x) taken)
          ∙ ap (λ x. (waits state.queue (dirty_of k.dict q) && not (slot_same q (slot_of dirty))) || x)
          (ap (λ x. x && marks k.dict k.now (is_shielded k.extended k.dict k.now (live_results_in k state'.store.cells)) (slot_of dirty) rs (dirty_of k.dict q)) moved_now
          ∙ ap (λ x. c.moved (slot_of dirty) && x)
          (marks_feed k.dict k.now (is_shielded k.extended k.dict k.now (live_results_in k state'.store.cells)) (slot_of dirty) rs are q ∙ fed))
        where
          taken : dirty_same (dirty_of k.dict q) dirty ≡ slot_same q (slot_of dirty)
          taken = dirty_turn (dirty_of k.dict q) dirty ∙ dirty_is k.dict dirty (run.ranked dirty pop.some) q

          fed : (stands k.dict.tree k.now q && (feeds k.dict.tree (slot_of dirty) q && not (is_shielded k.extended k.dict k.now (live_results_in k state'.store.cells) q))) ≡ (c.stands q && c.feeds (slot_of dirty) q)
          fed = at (stands k.dict.tree k.now q) refl
            where
              at : (x : Bool) → stands k.dict.tree k.now q ≡ x → (x && (feeds k.dict.tree (slot_of dirty) q && not (is_shielded k.extended k.dict k.now (live_results_in k state'.store.cells) q))) ≡ (c.stands q && c.feeds (slot_of dirty) q)
              at true e =
                  feeds_now propagation.names k.dict propagation.accepted k.now k.extended (live_results_in k first) c propagation.transition (slots_done state) (waits_in k.dict state.queue) run.marked
                  (slot_of dirty) popped_waits (live_results_in k state'.store.cells) results_after q e
                  ∙ ap (λ x. x && c.feeds (slot_of dirty) q) (sym (propagation.transition.there q ∙ e))
              at false e = ap (λ x. x && c.feeds (slot_of dirty) q) (sym (propagation.transition.there q ∙ e))

      ranked_after : (q : DirtySlot) → IsTrue (waits state'.queue q) → q.rank ≡ rank k.dict q.fact
      ranked_after q on =
          either (waits left q) (marks_now k rs state.store.cells state'.store.cells (slot_of dirty) q) (sym (turned.marked q) ∙ on)
          (λ e. run.ranked q (both_left (waits state.queue q) (not (dirty_same q dirty)) (sym (pop.rest q) ∙ e)))
          (λ e. marks_rank k.dict k.now (is_shielded k.extended k.dict k.now (live_results_in k state'.store.cells)) (slot_of dirty) rs q
          (both_right (moves (live_results_in k state.store.cells (slot_of dirty)) (plain k.dict k.now (slot_of dirty))) _ e))

      pub still_running : IsRunning k c first state'
      still_running = record {
        marked = subst (λ ss. IsMarked c ss (waits_in k.dict state'.queue)) (sym now_done)
            (turn_marks c propagation.transition.spreads (slots_done state) (waits_in k.dict state.queue) run.marked (slot_of dirty) popped_waits popped_least (waits_in k.dict state'.queue) next);
        ranked = ranked_after;
        kept = cells_after;
      }

      -- so many are left at most, one fewer than before
      pub fewer : length (touched_of c) - length (entries state'.log) < length (touched_of c) - length (entries state.log)
      fewer =
          let h = (done_weigh_less c propagation.transition.spreads (slots_done state) (waits_in k.dict state.queue) run.marked (λ _. 1)).1 (slot_of dirty) popped_waits in
          let all : length (slots_done state ++ slot_of dirty ∷ []) ≤ length (touched_of c) = omega (arith, h, length_is (slots_done state ++ slot_of dirty ∷ []), length_is (touched_of c)) in
          let a : length (slots_done state ++ slot_of dirty ∷ []) ≡ length (entries state'.log) = ap length (sym now_done) ∙ length-map (entries state'.log) (λ (e : Replaced). e.slot) in
          let b : length (slots_done state ++ slot_of dirty ∷ []) ≡ length (slots_done state) + 1 = length-append (slots_done state) (slot_of dirty ∷ []) in
          let e : length (slots_done state) ≡ length (entries state.log) = length-map (entries state.log) (λ (e : Replaced). e.slot) in
          omega (arith, all, a, b, e)

  -- ---- once nothing waits

  module _ (none : (q : DirtySlot) → waits state.queue q ≡ false) where
    pub ended_new : (s : Slot) → live_results_in k state.store.cells s ≡ plain k.dict k.now s
    ended_new = all_new k.dict k.now k.extended (live_results_in k first) c propagation.transition (slots_done state) (waits_in k.dict state.queue) run.marked (live_results_in k state.store.cells) are_results (λ s. none (dirty_of k.dict s))

    pub visits_ended : (start now : ℕ) → now ≡ start + sum_by (slot_visits k.dict k.now) (slots_done state) → now ≡ start + propagation_visits k c
    visits_ended start now h =
        h ∙ ap (λ n. start + n) (done_weigh_all c propagation.transition.spreads propagation.transition.once (slots_done state) (waits_in k.dict state.queue) run.marked (λ s. none (dirty_of k.dict s)) (slot_visits k.dict k.now))

  pub steps_ended : (start now : ℕ) → now ≤ start + sum_by (slot_weight k.dict k.now) (slots_done state) → now ≤ start + propagation_weight k c
  steps_ended start now h =
      let l = (done_weigh_less c propagation.transition.spreads (slots_done state) (waits_in k.dict state.queue) run.marked (slot_weight k.dict k.now)).0 in omega (arith, h, l)
