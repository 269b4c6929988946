-- Readers that stand as places of the queue let wait what they let wait one by one.
use Rattle.std.proofs.Common.{◌≡◌, ℕ, zero, suc, ◌<◌, Bool, true, false, not, ◌&&◌, ◌||◌, nat_eq, if◌then◌else◌, IsTrue, List, [], ◌∷◌, ◌++◌, All, length, get_or, Option, Some, None, is_some, refl, sym, ap, subst, ◌∙◌, arith}
use Rattle.std.specs.Prelude.{IfSome, slice_get}
use Rattle.std.specs.List.{list_any}
use Rattle.std.proofs.lemmas.List.Elements.{All-head, All-push, All-tail}
use Rattle.std.proofs.lemmas.List.Folds.{list_any-append}
use Rattle.common_lemmas.proofs.Bools.{or_false}
use Rattle.common_lemmas.proofs.Numbers.{equal_number, same_number}
use Rattle.fact_values.specs.declared.slot.Slot.{Slot}
use Rattle.answers.specs.Answered.{Answered, list_of, value_of}
use Rattle.answers.specs.declared.edit.Side.TheVariants.{Override}
use Rattle.cell_store.specs.Contents.{Cells}
use Rattle.dep_index.specs.Readers.{readers_of}
use Rattle.dep_index.specs.declared.readers_of.ReaderOf.{ReaderOf}
use Rattle.dict_source.specs.Dictionary.{Dictionary as Tree}
use Rattle.dict_source.specs.Facts.{Fact}
use Rattle.dict_source.specs.Finding.{fact_at, IsNumber}
use Rattle.dict_meaning.specs.Accepted.{Accepted}
use Rattle.dict_meaning.specs.Final.{is_complete_in}
use Rattle.dict_meaning.specs.Homes.{home}
use Rattle.dict_meaning.specs.Plain.{rank}
use Rattle.dict_meaning.specs.Slots.{stands, stands_at, stands_of}
use Rattle.dict_meaning.specs.Steady.{steady}
use Rattle.evaluation.specs.Results.{slot}
use Rattle.dirty_slots.specs.Places.{is_at_any}
use Rattle.dirty_slots.specs.Waiting.{dirty_same, DirtySlots, is_dirty}
use Rattle.dirty_slots.specs.declared.dirty_slot.DirtySlot.{DirtySlot}
use Rattle.dirty_slots.proofs.MarkLaws.{is_of_slot, place_within}
use Rattle.recalc.specs.PlacedReaders.{AllArePlaced, ArePlaced, global_slot, IsGlobal, IsPlaced}
use Rattle.recalc.specs.Readers.{marks_at, reads_at}
use Rattle.recalc.specs.Running.{let_by, let_by_all, live_results_in, ChangeSetting, shielded_in}
use Rattle.recalc.specs.declared.placed_readers.PlacedReaders.{PlacedReaders}

-- ---- one more reader has its place

pub one_placed : (d : Accepted) (places : DirtySlots) (fact : ℕ) (all left : List ReaderOf) (r : ReaderOf) (old new : PlacedReaders)
    → ArePlaced d places fact all (r ∷ left) old → (n : ℕ) → IsPlaced d places fact r n → new.places.items ≡ old.places.items ++ n ∷ []
    → new.others.items ≡ old.others.items → ArePlaced d places fact all left new
one_placed d places fact all left r old new are n is more same = record {
  placed = are.placed ++ r ∷ [];
  each = λ test.
      are.each test ∙ first (list_any test are.placed) (list_any test old.others.items) (test r) (list_any test left)
      ∙ (λ i. sym (list_any-append test are.placed (r ∷ [])) i || (list_any test (sym same i) || list_any test left));
  global = All-push (IsGlobal d fact) are.placed r are.global is.global;
  slots = λ q.
      ap (λ ps. is_at_any places ps q) more ∙ list_any-append (λ p. is_dirty (slice_get places p) q) old.places.items (n ∷ [])
      ∙ (λ i. are.slots q i || (is_of_slot (slice_get places n) (global_slot d r) q is.there i || false))
      ∙ sym (list_any-append (λ t. dirty_same q (global_slot d t)) are.placed (r ∷ []));
  within = subst (λ ps. All (λ p. p < length places) ps) (sym more)
      (All-push (λ p. p < length places) old.places.items n are.within (place_within places n (global_slot d r) is.there));
  numbers = subst (λ (rs : List ReaderOf). All (λ (t : ReaderOf). IsNumber d.tree.facts t.fact) rs) (sym same) are.numbers;
}
  where
    first : (p o t l : Bool) → (p || (o || (t || l))) ≡ ((p || (t || false)) || (o || l))
    first true o t l = refl
    first false true true l = refl
    first false true false l = refl
    first false false true l = refl
    first false false false l = refl

-- ---- the rows of all facts

-- what holds of each row holds with one more of which it holds
pub row_added : (P : ℕ → PlacedReaders → Type 0) (rows : List PlacedReaders) (row : PlacedReaders) → ((i : ℕ) → IfSome (slice_get rows i) (P i)) → P (length rows) row
    → (i : ℕ) → IfSome (slice_get (rows ++ row ∷ []) i) (P i)
row_added P [] row all one zero = one
row_added P [] row all one (suc i) = tt
row_added P (r ∷ rows) row all one zero = all 0
row_added P (r ∷ rows) row all one (suc i) = row_added (λ n. P (suc n)) rows row (λ n. all (suc n)) one i

at_index : (P : PlacedReaders → Type 0) (rows : List PlacedReaders) (i : ℕ) (p : PlacedReaders) → i < length rows → IfSome (slice_get rows i) P → P (get_or rows i p)
at_index P [] i p low h = absurd (omega arith)
at_index P (r ∷ rows) zero p low h = h
at_index P (r ∷ rows) (suc i) p low h = at_index P rows i p (omega arith) h

pub placed_at : (d : Accepted) (places : DirtySlots) (readers : List (List ReaderOf)) (rows : List PlacedReaders) → AllArePlaced d places readers rows
    → (fact : ℕ) (p : PlacedReaders) → fact < length rows → p ≡ get_or rows fact p → ArePlaced d places fact (readers_of readers fact) [] p
placed_at d places readers rows all fact p low is =
    subst (ArePlaced d places fact (readers_of readers fact) []) (sym is) (at_index (ArePlaced d places fact (readers_of readers fact) []) rows fact p low (all.each fact))

-- ---- which slots wait

-- a global fact's slot that stands is at no member
pub global_stands : (d : Tree) (a : Answered) (s : Slot) → IsTrue (stands d a s) → home d s.fact ≡ 0 → s.member ≡ 0
global_stands d a s there global = at (fact_at d.facts s.fact) there
  where
    at : (o : Option Fact) → IsTrue (stands_of a (home d s.fact) s.member o) → s.member ≡ 0
    at None h = absurd cc
    at (Some f) h = same_number s.member 0 (ap (λ n. stands_at a n s.member) (sym global) ∙ h)

reads_all : (x : Bool) (h m : ℕ) → (x || nat_eq h 0) ≡ true → (h ≡ 0 → m ≡ 0) → (x || nat_eq m 0) ≡ true
reads_all true h m e global = refl
reads_all false h m e global = ap (λ n. nat_eq n 0) (global (same_number h 0 e)) ∙ equal_number 0

-- where the answers aren't extended, the readers let the same slots wait by their places
module _ (k : ChangeSetting) (cells : Cells) (s : Slot) (q : DirtySlot) (unextended : k.extended ≡ false) (global : home k.dict.tree s.fact ≡ 0 → s.member ≡ 0) where
  one_lets : (r : ReaderOf) → IsGlobal k.dict s.fact r → let_by k cells s q r ≡ dirty_same q (global_slot k.dict r)
  one_lets r is =
      ap (λ h. list_any (marks_at (shielded_in k cells) s r (rank k.dict r.fact) q) (if nat_eq h 0 then 0 ∷ [] else list_of k.now h)) is.global
      ∙ seen (reads_at s r 0) k.extended (is_complete_in (live_results_in k cells (slot r.fact 0)) && (is_some (value_of Override k.now (slot r.fact 0)) || steady k.dict r.fact))
      (dirty_same q (global_slot k.dict r)) (reads_all (not r.same) (home k.dict.tree s.fact) s.member is.reads global) unextended
    where
      seen : (a e x y : Bool) → a ≡ true → e ≡ false → (((a && not (e && x)) && y) || false) ≡ y
      seen true false x y h g = or_false y
      seen true true x y h g = absurd cc
      seen false e x y h g = absurd cc

  all_let : (rs : List ReaderOf) → All (IsGlobal k.dict s.fact) rs → list_any (let_by k cells s q) rs ≡ list_any (λ r. dirty_same q (global_slot k.dict r)) rs
  all_let [] are = refl
  all_let (r ∷ rs) are = (λ i. one_lets r (All-head (IsGlobal k.dict s.fact) r rs are) i || all_let rs (All-tail (IsGlobal k.dict s.fact) r rs are) i)

  pub placed_let : (places : DirtySlots) (all : List ReaderOf) (p : PlacedReaders) → ArePlaced k.dict places s.fact all [] p
      → (is_at_any places p.places.items q || let_by_all k cells s p.others.items q) ≡ let_by_all k cells s all q
  placed_let places all p are =
      (λ i. (are.slots q ∙ sym (all_let are.placed are.global)) i || sym (or_false (let_by_all k cells s p.others.items q)) i)
      ∙ sym (are.each (let_by k cells s q))
