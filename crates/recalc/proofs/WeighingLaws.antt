-- A list without a slot twice weighs no more than one that has all of its slots.
use Rattle.std.proofs.Common.{◌≡◌, ℕ, ◌+◌, ◌≤◌, Bool, true, false, ◌&&◌, ◌||◌, if◌then◌else◌, List, [], ◌∷◌, ◌++◌, length, refl, sym, ap, ◌∙◌, arith}
use Rattle.std.specs.List.{sum_by}
use Rattle.std.proofs.lemmas.List.Sums.{sum_by-cons}
use Rattle.common_lemmas.proofs.Bools.{and_intro, or_left, or_right, both_left, both_right}
use Rattle.fact_values.specs.declared.slot.Slot.{Slot}
use Rattle.dict_meaning.specs.Slots.{slot_same}
use Rattle.dict_meaning.proofs.SlotLaws.{slot_same-equal, slot_same-itself}
use Rattle.recalc.specs.Spread.{Spread, IsSpread, is_in, is_touched, NoTwice}
use Rattle.recalc.specs.Marking.{IsMarked}
use Rattle.recalc.specs.Laws.{DoneWeighAll, DoneWeighLess, touched_of}
use Rattle.recalc.proofs.SlotLists.{either, filtered, filtered_once, in_push, once_push}
use Rattle.recalc.proofs.MarkingLaws.{done_are_touched, dirty_is_touched}

abbrev without : Slot → List Slot → List Slot
without x [] = []
without x (y ∷ ys) = if slot_same x y then ys else y ∷ without x ys

plus_swap : (a b c s : ℕ) → s ≡ a + c → b + s ≡ a + (b + c)
plus_swap a b c s h = omega arith

sum_without : (w : Slot → ℕ) (x : Slot) (ys : List Slot) → is_in ys x ≡ true → sum_by w ys ≡ w x + sum_by w (without x ys)
sum_without w x [] h = absurd (cc)
sum_without w x (y ∷ ys) h = at (slot_same x y) refl (sum_without w x ys)
  where
    at : (b : Bool) → slot_same x y ≡ b → (is_in ys x ≡ true → sum_by w ys ≡ w x + sum_by w (without x ys)) → sum_by w (y ∷ ys) ≡ w x + sum_by w (if b then ys else y ∷ without x ys)
    at true e ih = rw (slot_same-equal x y e) (sum_by-cons w y ys)
    at false e ih =
        let k : is_in ys x ≡ true = let j : (slot_same x y || is_in ys x) ≡ true = h in rw e at j in
        sum_by-cons w y ys ∙ plus_swap (w x) (w y) (sum_by w (without x ys)) (sum_by w ys) (ih k) ∙ ap (λ n. w x + n) (sym (sum_by-cons w y (without x ys)))

-- what is left when another slot is taken out
left_in : (x s : Slot) (ys : List Slot) → slot_same s x ≡ false → is_in ys s ≡ true → is_in (without x ys) s ≡ true
left_in x s [] d h = absurd (cc)
left_in x s (y ∷ ys) d h = at (slot_same x y) refl (left_in x s ys d)
  where
    at : (b : Bool) → slot_same x y ≡ b → (is_in ys s ≡ true → is_in (without x ys) s ≡ true) → is_in (if b then ys else y ∷ without x ys) s ≡ true
    at true e ih =
        let j : (slot_same s y || is_in ys s) ≡ true = h in
        let k : slot_same s y ≡ false = ap (slot_same s) (sym (slot_same-equal x y e)) ∙ d in rw k at j
    at false e ih =
        either (slot_same s y) (is_in ys s) h
        (λ k. or_left (slot_same s y) (is_in (without x ys) s) k)
        (λ k. or_right (slot_same s y) (is_in (without x ys) s) (ih k))

pub differs : (x s : Slot) (xs : List Slot) → is_in xs x ≡ false → is_in xs s ≡ true → slot_same s x ≡ false
differs x s xs new i = at (slot_same s x) refl
  where
    at : (b : Bool) → slot_same s x ≡ b → b ≡ false
    at false e = refl
    at true e = absurd (let k : is_in xs x ≡ true = ap (is_in xs) (sym (slot_same-equal s x e)) ∙ i in cc)

pub weighs_less : (w : Slot → ℕ) (xs ys : List Slot) → NoTwice xs → ((s : Slot) → is_in xs s ≡ true → is_in ys s ≡ true) → sum_by w xs ≤ sum_by w ys
weighs_less w [] ys once h = omega arith
weighs_less w (x ∷ xs) ys once h =
    let here : is_in ys x ≡ true = h x (or_left (slot_same x x) (is_in xs x) (slot_same-itself x)) in
    let rest : sum_by w xs ≤ sum_by w (without x ys) =
    weighs_less w xs (without x ys) once.1 (λ s i. left_in x s ys (differs x s xs once.0 i) (h s (or_right (slot_same s x) (is_in xs s) i))) in
    let e : sum_by w ys ≡ w x + sum_by w (without x ys) = sum_without w x ys here in
    let k : sum_by w (x ∷ xs) ≡ w x + sum_by w xs = sum_by-cons w x xs in
    omega arith

pub length_is : (xs : List Slot) → length xs ≡ sum_by (λ _. 1) xs
length_is [] = refl
length_is (x ∷ xs) =
    let e : length xs ≡ sum_by (λ _. 1) xs = length_is xs in
    let k : sum_by (λ _. 1) (x ∷ xs) ≡ 1 + sum_by (λ _. 1) xs = sum_by-cons (λ _. 1) x xs in omega arith

-- ---- of a change

done_within :
    (c : Spread) → IsSpread c → (done : List Slot) (dirty : Slot → Bool) → IsMarked c done dirty
    → (s : Slot) → is_in done s ≡ true → is_in (touched_of c) s ≡ true
done_within c laws done dirty m s i =
    filtered (is_touched c) c.standing s ∙ and_intro (is_touched c s) (is_in c.standing s) (m.right s i).1 (laws.listed s ∙ (m.right s i).0)

dirty_within :
    (c : Spread) → IsSpread c → (done : List Slot) (dirty : Slot → Bool) → IsMarked c done dirty
    → (s : Slot) → dirty s ≡ true → is_in (touched_of c) s ≡ true
dirty_within c laws done dirty m s on =
    filtered (is_touched c) c.standing s
    ∙ and_intro (is_touched c s) (is_in c.standing s) (dirty_is_touched c laws done dirty m s on) (laws.listed s ∙ (m.only s on).0)

pub done_weigh_less : DoneWeighLess
done_weigh_less c laws done dirty m w = (
  weighs_less w done (touched_of c) m.once (done_within c laws done dirty m),
  λ s on. weighs_less w (done ++ s ∷ []) (touched_of c) (once_push done s m.once (m.only s on).1)
      (λ q i. either (is_in done q) (slot_same q s) (sym (in_push done s q) ∙ i)
      (done_within c laws done dirty m q)
      (λ e. ap (is_in (touched_of c)) (slot_same-equal q s e) ∙ dirty_within c laws done dirty m s on)),
)

both_ways : (a b : ℕ) → a ≤ b → b ≤ a → a ≡ b
both_ways a b h k = omega arith

pub done_weigh_all : DoneWeighAll
done_weigh_all c laws once done dirty m none w =
    both_ways (sum_by w done) (sum_by w (touched_of c)) ((done_weigh_less c laws done dirty m w).0)
    (weighs_less w (touched_of c) done (filtered_once (is_touched c) c.standing once)
    (λ s i.
    let t : (is_touched c s && is_in c.standing s) ≡ true = sym (filtered (is_touched c) c.standing s) ∙ i in
    done_are_touched c laws done dirty m none s
    ∙ and_intro (c.stands s) (is_touched c s) (sym (laws.listed s) ∙ both_right (is_touched c s) (is_in c.standing s) t) (both_left (is_touched c s) (is_in c.standing s) t)))
