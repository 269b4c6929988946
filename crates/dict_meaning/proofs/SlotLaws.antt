-- The slots that stand, as a list and as a test.
use Rattle.std.proofs.Common.{◌≡◌, ℕ, zero, suc, ◌<◌, ◌≤◌, Bool, true, false, ◌&&◌, ◌||◌, nat_eq, IsTrue, if◌then◌else◌, List, [], ◌∷◌, length, map, Option, Some, None, refl, sym, ap, ◌∙◌, arith}
use Rattle.std.specs.List.{list_any}
use Rattle.std.proofs.lemmas.Bool.{eqb-true}
use Rattle.std.proofs.lemmas.Bool.Decides.{nat_tests}
use Rattle.std.proofs.lemmas.List.Folds.{list_any-append}
use Rattle.fact_values.specs.declared.slot.Slot.{Slot}
use Rattle.dict_source.specs.Facts.{Fact}
use Rattle.dict_source.specs.Dictionary.{Dictionary as Tree}
use Rattle.dict_source.specs.Finding.{fact_at}
use Rattle.evaluation.specs.Agreement.{IsIn}
use Rattle.common_lemmas.proofs.Bools.{both_left, both_right, neither_or, or_left, or_right}
use Rattle.evaluation.proofs.Coincide.{is_behind, is_head}
use Rattle.answers.specs.Answered.{Answered, list_of}
use Rattle.answers.specs.Change.{IsListed, Stands}
use Rattle.dict_meaning.specs.Homes.{home}
use Rattle.evaluation.specs.Results.{slot}
use Rattle.dict_meaning.specs.Slots.{is_member, slot_same, slots_of, slots_up_to, standing, stands, stands_at, stands_of}
use Rattle.dict_meaning.proofs.NumberLaws.{fact_there, fact_within}
use Rattle.common_lemmas.proofs.Numbers.{nat_eq-comm}

-- ---- one slot and another

pub slot_same-itself : (s : Slot) → slot_same s s ≡ true
slot_same-itself s = grind (arith, nat_tests)

pub slot_same-comm : (s t : Slot) → slot_same s t ≡ slot_same t s
slot_same-comm s t = ap (λ (b : Bool). b && nat_eq s.member t.member) (nat_eq-comm s.fact t.fact) ∙ ap (λ (b : Bool). nat_eq t.fact s.fact && b) (nat_eq-comm s.member t.member)

pub slot_same-equal : (s t : Slot) → slot_same s t ≡ true → s ≡ t
slot_same-equal s t h =
    let f : s.fact ≡ t.fact = eqb-true s.fact t.fact (both_left (nat_eq s.fact t.fact) (nat_eq s.member t.member) h) in
    let m : s.member ≡ t.member = eqb-true s.member t.member (both_right (nat_eq s.fact t.fact) (nat_eq s.member t.member) h) in
    ap (λ n. slot n s.member) f ∙ ap (slot t.fact) m

-- ---- the facts of the slots that stand

-- its fact is one of the dictionary's
pub fact_of_standing : (d : Tree) (a : Answered) (s : Slot) → IsTrue (stands d a s) → (f : Fact) × (fact_at d.facts s.fact ≡ Some f) × IsTrue (stands_at a (home d s.fact) s.member)
fact_of_standing d a s h = at (fact_at d.facts s.fact) refl h
  where
    at : (o : Option Fact) → fact_at d.facts s.fact ≡ o → IsTrue (stands_of a (home d s.fact) s.member o) → (f : Fact) × (fact_at d.facts s.fact ≡ Some f) × IsTrue (stands_at a (home d s.fact) s.member)
    at None e h = absurd (cc)
    at (Some f) e h = (f, e, h)

-- of a slot that stands at a member, the member is in a list
pub slot_stands : (d : Tree) (a : Answered) (s : Slot) → IsTrue (stands d a s) → Stands a s.member
slot_stands d a s h = at (nat_eq (home d s.fact) 0) (fact_of_standing d a s h).2
  where
    at : (b : Bool) → (if b then nat_eq s.member 0 else is_member a (home d s.fact) s.member) ≡ true → nat_eq s.member 0 ≡ false → IsListed a s.member
    at true h out = absurd cc
    at false h out = (home d s.fact, h)

pub stands_where : (d : Tree) (a : Answered) (s : Slot) (f : Fact) → fact_at d.facts s.fact ≡ Some f → stands d a s ≡ stands_at a (home d s.fact) s.member
stands_where d a s f e = ap (stands_of a (home d s.fact) s.member) e

-- ---- a slot that stands is listed

in_map : (p : Slot → Bool) (f m : ℕ) (ms : List ℕ) → IsIn ms m → IsTrue (p (slot f m)) → IsTrue (list_any p (map (slot f) ms))
in_map p f m [] i h = absurd (cc)
in_map p f m (k ∷ ms) i h = at (nat_eq m k) refl i (λ j. in_map p f m ms j h)
  where
    at : (b : Bool) → nat_eq m k ≡ b → IsTrue (b || list_any (nat_eq m) ms) → (IsIn ms m → IsTrue (list_any p (map (slot f) ms))) → IsTrue (p (slot f k) || list_any p (map (slot f) ms))
    at true e i rest = or_left (p (slot f k)) (list_any p (map (slot f) ms)) (ap (λ n. p (slot f n)) (sym (eqb-true m k e)) ∙ h)
    at false e i rest = or_right (p (slot f k)) (list_any p (map (slot f) ms)) (rest i)

in_home : (a : Answered) (p : Slot → Bool) (f m h : ℕ) (once : Bool) → IsTrue (if once then nat_eq m 0 else is_member a h m) → IsTrue (p (slot f m)) → IsTrue (list_any p (map (slot f) (if once then 0 ∷ [] else list_of a h)))
in_home a p f m h true i k = or_left (p (slot f 0)) false (ap (λ n. p (slot f n)) (sym (eqb-true m 0 i)) ∙ k)
in_home a p f m h false i k = in_map p f m (list_of a h) i k

in_fact : (d : Tree) (a : Answered) (p : Slot → Bool) (t : Slot) → IsTrue (stands_at a (home d t.fact) t.member) → IsTrue (p t) → IsTrue (list_any p (slots_of d a t.fact))
in_fact d a p t i h = in_home a p t.fact t.member (home d t.fact) (nat_eq (home d t.fact) 0) i h

module _ (d : Tree) (a : Answered) (p : Slot → Bool) (t : Slot) (i : IsTrue (stands_at a (home d t.fact) t.member)) (h : IsTrue (p t)) where
  up_to : (n : ℕ) → 0 < t.fact → t.fact ≤ n → IsTrue (list_any p (slots_up_to d a n))
  up_to zero low high = absurd (omega arith)
  up_to (suc n) low high = rw list_any-append (at (nat_eq t.fact (suc n)) refl (λ k. up_to n low k))
    where
      at : (b : Bool) → nat_eq t.fact (suc n) ≡ b → (t.fact ≤ n → IsTrue (list_any p (slots_up_to d a n))) → IsTrue (list_any p (slots_up_to d a n) || list_any p (slots_of d a (suc n)))
      at true e rest =
          or_right (list_any p (slots_up_to d a n)) (list_any p (slots_of d a (suc n))) (ap (λ f. list_any p (slots_of d a f)) (sym (eqb-true t.fact (suc n) e)) ∙ in_fact d a p t i h)
      at false e rest = or_left (list_any p (slots_up_to d a n)) (list_any p (slots_of d a (suc n))) (rest (grind (arith, nat_tests)))

-- one that passes a test is found
pub listed : (d : Tree) (a : Answered) (p : Slot → Bool) (t : Slot) → IsTrue (stands d a t) → IsTrue (p t) → IsTrue (list_any p (standing d a))
unfolding standing
listed d a p t i h =
    let here = fact_of_standing d a t i in
    let within = fact_within d.facts t.fact here.0 here.1 in
    up_to d a p t here.2 h (length d.facts) within.0 within.1

-- ---- where no slot that stands passes a test, none of the list does

none_in_map : (p : Slot → Bool) (f : ℕ) (ms : List ℕ) → ((m : ℕ) → IsIn ms m → p (slot f m) ≡ false) → list_any p (map (slot f) ms) ≡ false
none_in_map p f [] h = refl
none_in_map p f (k ∷ ms) h = neither_or (p (slot f k)) (list_any p (map (slot f) ms)) (h k (is_head k ms)) (none_in_map p f ms (λ m i. h m (is_behind k ms m i)))

none_in_home : (a : Answered) (p : Slot → Bool) (f h : ℕ) (once : Bool) → ((m : ℕ) → IsTrue (if once then nat_eq m 0 else is_member a h m) → p (slot f m) ≡ false) → list_any p (map (slot f) (if once then 0 ∷ [] else list_of a h)) ≡ false
none_in_home a p f h true none = neither_or (p (slot f 0)) false (none 0 refl) refl
none_in_home a p f h false none = none_in_map p f (list_of a h) none

none_of_fact : (d : Tree) (a : Answered) (p : Slot → Bool) (n : ℕ) → 0 < n → n ≤ length d.facts → ((t : Slot) → IsTrue (stands d a t) → p t ≡ false) → list_any p (slots_of d a n) ≡ false
none_of_fact d a p n low high none =
    let there = fact_there d.facts n low high in
    none_in_home a p n (home d n) (nat_eq (home d n) 0) (λ m i. none (slot n m) (stands_where d a (slot n m) there.0 there.1 ∙ i))

none_up_to : (d : Tree) (a : Answered) (p : Slot → Bool) (n : ℕ) → n ≤ length d.facts → ((t : Slot) → IsTrue (stands d a t) → p t ≡ false) → list_any p (slots_up_to d a n) ≡ false
none_up_to d a p zero high none = refl
none_up_to d a p (suc n) high none =
    rw list_any-append (neither_or (list_any p (slots_up_to d a n)) (list_any p (slots_of d a (suc n))) (none_up_to d a p n (omega arith) none) (none_of_fact d a p (suc n) (omega arith) high none))

pub unlisted : (d : Tree) (a : Answered) (p : Slot → Bool) → ((t : Slot) → IsTrue (stands d a t) → p t ≡ false) → list_any p (standing d a) ≡ false
unfolding standing
unlisted d a p none = none_up_to d a p (length d.facts) (omega arith) none

-- so where none of the list does, none that stands does
pub none_stands : (d : Tree) (a : Answered) (p : Slot → Bool) → list_any p (standing d a) ≡ false → (t : Slot) → IsTrue (stands d a t) → p t ≡ false
none_stands d a p h t i = at (p t) refl
  where
    at : (b : Bool) → p t ≡ b → b ≡ false
    at false e = refl
    at true e = absurd (let found : list_any p (standing d a) ≡ true = listed d a p t i e in cc)

-- ---- the list has exactly the slots that stand

pub listed_stand : (d : Tree) (a : Answered) (s : Slot) → list_any (slot_same s) (standing d a) ≡ stands d a s
listed_stand d a s = at (stands d a s) refl
  where
    other : stands d a s ≡ false → (t : Slot) → IsTrue (stands d a t) → (b : Bool) → slot_same s t ≡ b → b ≡ false
    other out t i false e = refl
    other out t i true e = absurd (let same : s ≡ t = slot_same-equal s t e in let out' : stands d a t ≡ false = ap (stands d a) (sym same) ∙ out in cc)

    at : (b : Bool) → stands d a s ≡ b → list_any (slot_same s) (standing d a) ≡ b
    at true e = listed d a (slot_same s) s e (slot_same-itself s)
    at false e = unlisted d a (slot_same s) (λ t i. other e t i (slot_same s t) refl)
