-- Slots that are missing stand, and their paths are lines.
use Rattle.std.proofs.Common.{◌≡◌, ℕ, ◌+◌, ◌<◌, zero, suc, Bool, IsTrue, List, [], ◌∷◌, ◌++◌, length, map, drop, get_or, refl, sym, ap, ◌∙◌, arith, append_assoc}
use Rattle.std.specs.Prelude.{All}
use Rattle.std.specs.List.{list_any}
use Rattle.std.proofs.lemmas.List.Elements.{All-cons, All-filter, All-nil}
use Rattle.fact_values.specs.declared.slot.Slot.{Slot}
use Rattle.common_lemmas.proofs.Bools.{or_left, or_right}
use Rattle.dict_source.specs.Dictionary.{Dictionary as Tree}
use Rattle.answers.specs.Answered.{Answered}
use Rattle.dict_meaning.specs.Accepted.{Accepted}
use Rattle.dict_meaning.specs.Slots.{slot_same, standing, stands}
use Rattle.dict_meaning.proofs.SlotLaws.{listed_stand, slot_same-itself}
use Rattle.explain.specs.Missing.{is_missing, missing}

-- ---- the slots of the list stand

finds_behind : (p : Slot → Bool) (before : List Slot) (s : Slot) (more : List Slot) → IsTrue (p s) → IsTrue (list_any p (before ++ s ∷ more))
finds_behind p [] s more h = or_left (p s) (list_any p more) h
finds_behind p (t ∷ before) s more h = or_right (p t) (list_any p (before ++ s ∷ more)) (finds_behind p before s more h)

rest_stand : (d : Tree) (a : Answered) (before xs : List Slot) → before ++ xs ≡ standing d a → All (λ s. IsTrue (stands d a s)) xs
rest_stand d a before [] e = All-nil (λ s. IsTrue (stands d a s))
rest_stand d a before (s ∷ xs) e =
    All-cons (λ t. IsTrue (stands d a t)) s xs
    (sym (listed_stand d a s) ∙ ap (list_any (slot_same s)) (sym e) ∙ finds_behind (slot_same s) before s xs (slot_same-itself s))
    (rest_stand d a (before ++ s ∷ []) xs (append_assoc before (s ∷ []) xs ∙ e))

-- so those that are missing do
pub missing_stand : (d : Accepted) (a : Answered) (s : Slot) → All (λ t. IsTrue (stands d.tree a t)) (missing d a s)
missing_stand d a s = All-filter (is_missing d a s) (λ t. IsTrue (stands d.tree a t)) (standing d.tree a) (rest_stand d.tree a [] (standing d.tree a) refl)

-- ---- lines of a list

module _ {X : Type 0} (f : X → List ℕ) where
  at_place : (xs : List X) (i : ℕ) (x : X) → i < length xs → map f (drop i xs) ≡ f (get_or xs i x) ∷ map f (drop (suc i) xs)
  at_place [] i x low = absurd (omega (arith, low))
  at_place (y ∷ ys) zero x low = refl
  at_place (y ∷ ys) (suc i) x low = at_place ys i x (omega (arith, low))

  -- the one at i, and those behind it
  pub next_line : (xs : List X) (i : ℕ) (x : X) → i < length xs → map f (drop i xs) ≡ f (get_or xs i x) ∷ map f (drop (i + 1) xs)
  next_line xs i x low =
      let next : suc i ≡ i + 1 = omega arith in
      at_place xs i x low ∙ ap (λ (k : ℕ). f (get_or xs i x) ∷ map f (drop k xs)) next
