-- Lists of slots and tests on them.
use Rattle.std.proofs.Common.{◌≡◌, Bool, true, false, ◌&&◌, ◌||◌, List, [], ◌∷◌, ◌++◌, filter, if◌then◌else◌, refl, sym, ap, ◌∙◌}
use Rattle.std.specs.List.{list_any}
use Rattle.std.proofs.lemmas.List.Folds.{list_any-append}
use Rattle.std.proofs.lemmas.Map.Views.{any-filter_same}
use Rattle.common_lemmas.proofs.Bools.{neither_or, or_false, or_left, or_neither, or_right}
use Rattle.fact_values.specs.declared.slot.Slot.{Slot}
use Rattle.dict_meaning.specs.Slots.{slot_same}
use Rattle.dict_meaning.proofs.SlotLaws.{slot_same-equal, slot_same-itself}
use Rattle.recalc.specs.Spread.{is_in, NoTwice}

pub other_way : (s t : Slot) → slot_same s t ≡ false → slot_same t s ≡ false
other_way s t h = at (slot_same t s) refl
  where
    at : (x : Bool) → slot_same t s ≡ x → x ≡ false
    at false e = refl
    at true e = absurd (let k : slot_same s t ≡ true = ap (slot_same s) (slot_same-equal t s e) ∙ slot_same-itself s in cc)

-- one of two holds
pub either : {A : Type 0} (a b : Bool) → (a || b) ≡ true → (a ≡ true → A) → (b ≡ true → A) → A
either true b h f k = f refl
either false b h f k = k h

-- ---- a test that a slot of the list passes, or none does

pub fails_in : (p : Slot → Bool) (xs : List Slot) (t : Slot) → is_in xs t ≡ true → list_any p xs ≡ false → p t ≡ false
fails_in p [] t i h = absurd (cc)
fails_in p (s ∷ xs) t i h = at (slot_same t s) refl (fails_in p xs t)
  where
    at : (x : Bool) → slot_same t s ≡ x → (is_in xs t ≡ true → list_any p xs ≡ false → p t ≡ false) → p t ≡ false
    at true e ih = ap p (slot_same-equal t s e) ∙ (or_neither (p s) (list_any p xs) h).0
    at false e ih = ih (let j : (slot_same t s || is_in xs t) ≡ true = i in rw e at j) (or_neither (p s) (list_any p xs) h).1

pub passes_in : (p : Slot → Bool) (xs : List Slot) (t : Slot) → is_in xs t ≡ true → p t ≡ true → list_any p xs ≡ true
passes_in p xs t i h = at (list_any p xs) refl
  where
    at : (x : Bool) → list_any p xs ≡ x → x ≡ true
    at true e = refl
    at false e = absurd (let k : p t ≡ false = fails_in p xs t i e in cc)

pub none_in : (p : Slot → Bool) (xs : List Slot) → ((t : Slot) → is_in xs t ≡ true → p t ≡ false) → list_any p xs ≡ false
none_in p [] h = refl
none_in p (s ∷ xs) h =
    neither_or (p s) (list_any p xs)
    (h s (or_left (slot_same s s) (is_in xs s) (slot_same-itself s)))
    (none_in p xs (λ t i. h t (or_right (slot_same t s) (is_in xs t) i)))

-- what follows from one that passes
pub some_in : (p : Slot → Bool) (xs : List Slot) (g : Bool) → list_any p xs ≡ true → ((t : Slot) → is_in xs t ≡ true → p t ≡ true → g ≡ true) → g ≡ true
some_in p [] g h k = absurd (cc)
some_in p (s ∷ xs) g h k =
    either (p s) (list_any p xs) h
    (λ e. k s (or_left (slot_same s s) (is_in xs s) (slot_same-itself s)) e)
    (λ e. some_in p xs g e (λ t i. k t (or_right (slot_same t s) (is_in xs t) i)))

-- ---- one more slot at the end

pub in_push : (xs : List Slot) (s q : Slot) → is_in (xs ++ s ∷ []) q ≡ (is_in xs q || slot_same q s)
in_push xs s q = list_any-append (slot_same q) xs (s ∷ []) ∙ ap (λ b. is_in xs q || b) (or_false (slot_same q s))

pub once_push : (xs : List Slot) (s : Slot) → NoTwice xs → is_in xs s ≡ false → NoTwice (xs ++ s ∷ [])
once_push [] s h k = (refl, tt)
once_push (t ∷ xs) s h k =
    let apart = or_neither (slot_same s t) (is_in xs s) k in (
      in_push xs s t ∙ neither_or (is_in xs t) (slot_same t s) h.0 (other_way s t apart.0),
      once_push xs s h.1 apart.1,
    )

-- ---- the slots of a list that pass

pub filtered : (p : Slot → Bool) (xs : List Slot) (s : Slot) → is_in (filter p xs) s ≡ (p s && is_in xs s)
filtered p xs s = any-filter_same (slot_same s) p (p s) (λ k e. ap p (sym (slot_same-equal s k e))) xs

and_off : (a b : Bool) → b ≡ false → (a && b) ≡ false
and_off true b h = h
and_off false b h = refl

pub filtered_once : (p : Slot → Bool) (xs : List Slot) → NoTwice xs → NoTwice (filter p xs)
filtered_once p [] once = tt
filtered_once p (x ∷ xs) once = at (p x) (filtered_once p xs once.1)
  where
    at : (b : Bool) → NoTwice (filter p xs) → NoTwice (if b then x ∷ filter p xs else filter p xs)
    at true ih = (filtered p xs x ∙ and_off (p x) (is_in xs x) once.0, ih)
    at false ih = ih
