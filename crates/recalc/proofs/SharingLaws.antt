-- The cells that a further engine begins with are those at no answers.
use Rattle.std.proofs.Common.{◌≡◌, ℕ, Bool, true, false, cond, ◌&&◌, ◌||◌, nat_eq, if◌then◌else◌, IsTrue, List, ◌∷◌, [], Option, Some, None, option_map, unwrap_or, refl, sym, ap, ◌∙◌}
use Rattle.std.specs.List.{list_any}
use Rattle.std.specs.FinMap as finite
use Rattle.std.specs.Ordering.{nat_cmp}
use Rattle.common_lemmas.proofs.Bools.{and_intro}
use Rattle.fact_values.specs.declared.slot.Slot.{Slot}
use Rattle.three_state.specs.declared.res.Res.{Res}
use Rattle.answers.specs.Answered.{Answered, start}
use Rattle.cell_store.specs.Contents.{Cells, no_cells}
use Rattle.cell_store.specs.SlotOrder.{slot_cmp}
use Rattle.cell_store.specs.declared.cell.Cell.{Cell}
use Rattle.cell_store.proofs.SlotLaws.{get_put_at}
use Rattle.dict_meaning.specs.Accepted.{Accepted, IsAccepted}
use Rattle.dict_meaning.specs.Homes.{home}
use Rattle.dict_meaning.specs.Plain.{plain}
use Rattle.dict_meaning.specs.Slots.{is_member, slot_same, stands, stands_at}
use Rattle.dict_meaning.proofs.PlainLaws.{no_result}
use Rattle.dict_meaning.proofs.SlotLaws.{slot_same-equal}
use Rattle.dictionary.specs.ByRank.{AreByRank}
use Rattle.full_evaluation.specs.Filling.{IsFilled}
use Rattle.recalc.specs.EngineInvariant.{results_of, stamp_in}
use Rattle.recalc.specs.Running.{stamped_cell}
use Rattle.recalc.specs.Sharing.{AreAtStart, AreCellsOf, global, new_or, read_cells, with_copies, with_result_of}
use Rattle.recalc.specs.declared.dependency_graph.DependencyGraph.{DependencyGraph}
use Rattle.recalc.specs.declared.engine_cells.EngineCells.{EngineCells}
use Rattle.recalc.specs.declared.engine_cells.EngineCells.TheVariants.{Own, Shared}
use Rattle.recalc.proofs.SeedingLaws.{standing_in, stands_in_order}

-- ---- one more cell is copied

none_copied : (x y z : Bool) (r : Option Res) (o : Option Cell) → (IsTrue (y && x) → r ≡ None)
    → (if x && z then new_or r o else o) ≡ (if x && (y || z) then new_or r o else o)
none_copied true true true r o h = refl
none_copied true true false r o h = sym (ap (λ q. new_or q o) (h refl))
none_copied true false true r o h = refl
none_copied true false false r o h = refl
none_copied false y z r o h = refl

one_copied : (x y z : Bool) (r : Option Res) (v : Res) (o : Option Cell) → (IsTrue (y && x) → r ≡ Some v)
    → (if x && z then new_or r (cond (y && x) (Some (stamped_cell 0 v)) o) else cond (y && x) (Some (stamped_cell 0 v)) o)
    ≡ (if x && (y || z) then new_or r o else o)
one_copied true true true r v o h = ap (λ q. new_or q (Some (stamped_cell 0 v))) (h refl) ∙ sym (ap (λ q. new_or q o) (h refl))
one_copied true true false r v o h = sym (ap (λ q. new_or q o) (h refl))
one_copied true false true r v o h = refl
one_copied true false false r v o h = refl
one_copied false true z r v o h = refl
one_copied false false z r v o h = refl

pub copy_one : (from cells left : Cells) (f : ℕ) (facts : List ℕ) → left ≡ with_result_of cells (global f) (results_of from (global f)) → (s : Slot)
    → with_copies from facts left s ≡ with_copies from (f ∷ facts) cells s
copy_one from cells left f facts e s = at (results_of from (global f)) refl
  where
    is_there : (o : Option Res) → results_of from (global f) ≡ o → IsTrue (nat_eq s.fact f && nat_eq s.member 0) → results_of from s ≡ o
    is_there o is same = ap (results_of from) (slot_same-equal s (global f) same) ∙ is

    at : (o : Option Res) → results_of from (global f) ≡ o → with_copies from facts left s ≡ with_copies from (f ∷ facts) cells s
    at None is =
        ap (λ (m : Cells). with_copies from facts m s) (e ∙ ap (with_result_of cells (global f)) is)
        ∙ none_copied (nat_eq s.member 0) (nat_eq s.fact f) (list_any (nat_eq s.fact) facts) (results_of from s) (finite.get cells s) (is_there None is)
    at (Some v) is =
        ap (λ (m : Cells). with_copies from facts m s) (e ∙ ap (with_result_of cells (global f)) is)
        ∙ ap (λ (o : Option Cell). if nat_eq s.member 0 && list_any (nat_eq s.fact) facts then new_or (results_of from s) o else o) (get_put_at cells (global f) (Some (stamped_cell 0 v)) s)
        ∙ one_copied (nat_eq s.member 0) (nat_eq s.fact f) (list_any (nat_eq s.fact) facts) (results_of from s) v (finite.get cells s) (is_there (Some v) is)

-- ---- all of them

-- at no answers no collection has a member
global_alone : (h m : ℕ) → IsTrue (stands_at start h m) → IsTrue (nat_eq m 0)
global_alone h m there = at (nat_eq h 0) there
  where
    at : (b : Bool) → IsTrue (if b then nat_eq m 0 else is_member start h m) → IsTrue (nat_eq m 0)
    at true i = i
    at false i = absurd (let none : is_member start h m ≡ false = ap (λ (o : Option (List ℕ)). list_any (nat_eq m) (unwrap_or o [])) (finite.get-empty {X = List ℕ} nat_cmp h) in cc)

module _ (names : List (List ℕ)) (d : Accepted) (accepted : IsAccepted names d) (order : List ℕ) (by_rank : AreByRank d.ranks order)
    (from : Cells) (at_start : AreAtStart d from) (first : Cells) (empty : first ≡ no_cells)
    (left : Cells) (copied : (s : Slot) → finite.get left s ≡ with_copies from order first s) where
  abbrev is_copied : Slot → Bool
  is_copied s = nat_eq s.member 0 && list_any (nat_eq s.fact) order

  standing_copied : (s : Slot) → IsTrue (stands d.tree start s) → IsTrue (is_copied s)
  standing_copied s there =
      let i = standing_in names d accepted order by_rank start s there in
      and_intro (nat_eq s.member 0) (list_any (nat_eq s.fact) order)
      (global_alone (home d.tree s.fact) s.member (sym (stands_in_order names d accepted order by_rank start s i) ∙ there)) i

  none_first : (s : Slot) → finite.get first s ≡ None
  none_first s = ap (λ (m : Cells). finite.get m s) empty ∙ finite.get-empty {X = Cell} slot_cmp s

  have_results : (s : Slot) → results_of left s ≡ plain d start s
  have_results s = ap (option_map (λ (c : Cell). c.res)) (copied s) ∙ at (is_copied s) (stands d.tree start s) refl refl
    where
      shown : (o : Option Res) → option_map (λ (c : Cell). c.res) (new_or o None) ≡ o
      shown None = refl
      shown (Some r) = refl

      at : (x y : Bool) → is_copied s ≡ x → stands d.tree start s ≡ y
          → option_map (λ (c : Cell). c.res) (if x then new_or (results_of from s) (finite.get first s) else finite.get first s) ≡ plain d start s
      at true y e f =
          ap (λ (o : Option Cell). option_map (λ (c : Cell). c.res) (new_or (results_of from s) o)) (none_first s)
          ∙ shown (results_of from s) ∙ at_start.results s
      at false false e f = ap (option_map (λ (c : Cell). c.res)) (none_first s) ∙ sym (no_result d start s f)
      at false true e f = absurd (let h : is_copied s ≡ true = standing_copied s f in cc)

  have_no_stamp : (s : Slot) → stamp_in left s ≡ 0
  have_no_stamp s = ap stamp_of (copied s) ∙ at (is_copied s)
    where
      stamp_of : Option Cell → ℕ
      stamp_of o = unwrap_or (option_map (λ (c : Cell). c.stamp) o) 0

      put : (o : Option Res) → stamp_of (new_or o None) ≡ 0
      put None = refl
      put (Some r) = refl

      at : (x : Bool) → stamp_of (if x then new_or (results_of from s) (finite.get first s) else finite.get first s) ≡ 0
      at true = ap (λ (o : Option Cell). stamp_of (new_or (results_of from s) o)) (none_first s) ∙ put (results_of from s)
      at false = ap stamp_of (none_first s)

  pub copies_are_at_start : AreAtStart d left
  copies_are_at_start = record { results = have_results; stamps = have_no_stamp }

-- ---- whichever cells an engine has, they have the results over its answers

pub read_results : (cells : EngineCells) (g : DependencyGraph) (d : Accepted) (a : Answered) → AreCellsOf cells g d a → (s : Slot) → results_of (read_cells cells) s ≡ plain d a s
read_results (Shared at_start) g d a are s = are.at_start.results s ∙ ap (λ b. plain d b s) (sym are.unanswered)
read_results (Own own) g d a are s = are.engine.results s

-- ---- before a first result is put

module _ (cells : Cells) (empty : cells ≡ no_cells) where
  nowhere : (s : Slot) → finite.get cells s ≡ None
  nowhere s = ap (λ (m : Cells). finite.get m s) empty ∙ finite.get-empty {X = Cell} slot_cmp s

  pub empty_have_no_result : (s : Slot) → results_of cells s ≡ None
  empty_have_no_result s = ap (option_map (λ (c : Cell). c.res)) (nowhere s)

  pub empty_have_no_stamp : (s : Slot) → stamp_in cells s ≡ 0
  empty_have_no_stamp s = ap (λ (o : Option Cell). unwrap_or (option_map (λ (c : Cell). c.stamp) o) 0) (nowhere s)

-- ---- a first result is put

module _ (cells left : Cells) (s : Slot) (r : Res) (put : left ≡ finite.insert cells s (stamped_cell 0 r)) where
  at_slot : (t : Slot) → finite.get left t ≡ cond (slot_same t s) (Some (stamped_cell 0 r)) (finite.get cells t)
  at_slot t = ap (λ (m : Cells). finite.get m t) put ∙ get_put_at cells s (Some (stamped_cell 0 r)) t

  pub first_is_filled : (d : Accepted) (a : Answered) → Some r ≡ plain d a s → IsFilled d a (results_of cells) (λ t. slot_same t s) (results_of left)
  first_is_filled d a is t = ap (option_map (λ (c : Cell). c.res)) (at_slot t) ∙ at (slot_same t s) refl
    where
      at : (b : Bool) → slot_same t s ≡ b
          → option_map (λ (c : Cell). c.res) (cond b (Some (stamped_cell 0 r)) (finite.get cells t)) ≡ (if b then plain d a t else results_of cells t)
      at true same = is ∙ ap (plain d a) (sym (slot_same-equal t s same))
      at false same = refl

  pub first_has_no_stamp : ((t : Slot) → stamp_in cells t ≡ 0) → (t : Slot) → stamp_in left t ≡ 0
  first_has_no_stamp none t = ap stamp_of (at_slot t) ∙ at (slot_same t s)
    where
      stamp_of : Option Cell → ℕ
      stamp_of o = unwrap_or (option_map (λ (c : Cell). c.stamp) o) 0

      at : (b : Bool) → stamp_of (cond b (Some (stamped_cell 0 r)) (finite.get cells t)) ≡ 0
      at true = refl
      at false = none t
