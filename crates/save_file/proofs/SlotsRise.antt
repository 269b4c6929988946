-- The slots that stand, in their order, and answers that have the same.
use Rattle.save_file.proofs.Common.{AllByRecursion, Answer, Answered, AnswersFit, Bool, Entry, FromOne, IsIn, IsListed, IsSome, List, None, Numbered, Once, Option, Override, Pairs, Side, Slot, Some, Tree, Value, WellFormed, [], and_then, ap, append-nil, arith, both, counted, equal_number, facts, false, flat_map, home, if◌then◌else◌, is_some, length, list_any, list_of, listed_stand, map, member_list-length, members_of_home, nat_eq, nat_tests, none_some, of_side, open_members, or_neither, place_in, refl, same, same_number, slot, slot_same, slot_same-equal, slots, slots_of, slots_up_to, stands, subst, suc, sym, takes, true, value_of, zero, ℕ, ◌*◌, ◌++◌, ◌+◌, ◌<◌, ◌||◌, ◌∙◌, ◌∷◌, ◌≡◌, ◌≤◌}
use Rattle.std.proofs.Common.{unwrap_or}
use Rattle.std.proofs.lemmas.List.Concat.{flat_map-append}
use Rattle.dict_meaning.specs.Slots.{standing}
use Rattle.answers.proofs.ChangeLaws.{answered_same}
use Rattle.answers.proofs.SideLaws.{entry_same}
use Rattle.saved_text.proofs.Lines.{across, all_where, everywhere, pairs-append, pairs_where}
use Rattle.saved_text.proofs.TextLaws.{all-append}
use Rattle.std.specs.FinMap as map

-- ==== the slots that stand rise, by their facts and then by the places of their members

-- ---- pairs

pub pairs_mapped : {X Y : Type 0} (f : X → Y) (R : Y → Y → Type 0) (xs : List X) → Pairs (λ x y. R (f x) (f y)) xs → Pairs R (map f xs)
pairs_mapped f R [] pairs = tt
pairs_mapped {X = X} f R (x ∷ xs) pairs = (all xs pairs.0, pairs_mapped f R xs pairs.1)
  where
    all : (ys : List X) → AllByRecursion (λ y. R (f x) (f y)) ys → AllByRecursion (R (f x)) (map f ys)
    all [] h = tt
    all (y ∷ ys) h = (h.0, all ys h.1)

-- ---- places in a list of members

pub place_low : (m : ℕ) (ms : List ℕ) → place_in m ms ≤ length ms
place_low m [] = omega arith
place_low m (k ∷ ks) = at (nat_eq m k) (place_low m ks)
  where
    at : (b : Bool) → place_in m ks ≤ length ks → (if b then 0 else suc (place_in m ks)) ≤ suc (length ks)
    at true low = omega arith
    at false low = omega (arith, low)

-- each is behind the one before it
places_rise : (ms : List ℕ) → Once ms → Pairs (λ m n. place_in m ms < place_in n ms) ms
places_rise [] once = tt
places_rise (k ∷ ks) once = (
  all_where (λ n. nat_eq n k ≡ false) (λ n. nat_eq n k ≡ false) (λ n. place_in k (k ∷ ks) < place_in n (k ∷ ks)) (λ n other also. omega (arith, first, step n other)) ks (others ks once.0) (others ks once.0),
  pairs_where (λ n. nat_eq n k ≡ false) (λ m n. place_in m ks < place_in n ks) (λ m n. place_in m (k ∷ ks) < place_in n (k ∷ ks)) (λ m n one other low. omega (arith, low, step m one, step n other)) ks (others ks once.0) (places_rise ks once.1),
)
  where
    others : (ns : List ℕ) → list_any (nat_eq k) ns ≡ false → AllByRecursion (λ n. nat_eq n k ≡ false) ns
    others [] out = tt
    others (n ∷ ns) out =
        let parts = or_neither (nat_eq k n) (list_any (nat_eq k) ns) out in
        (let first : nat_eq k n ≡ false = parts.0 in let other : nat_eq n k ≡ false = grind (arith, nat_tests) in other, others ns parts.1)

    step : (n : ℕ) → nat_eq n k ≡ false → place_in n (k ∷ ks) ≡ suc (place_in n ks)
    step n other = ap (λ (b : Bool). if b then 0 else suc (place_in n ks)) other

    first : place_in k (k ∷ ks) ≡ 0
    first = ap (λ (b : Bool). if b then 0 else suc (place_in k ks)) (equal_number k)

-- ---- slots

-- where a slot comes
abbrev pub slot_number : Tree → Answered → Slot → ℕ
slot_number d a s = 101 * s.fact + place_in s.member (members_of_home a (home d s.fact))

module _ (d : Tree) (a : Answered) (fit : AnswersFit d a) where
  home_members : (h : ℕ) (b : Bool) → Once (if b then 0 ∷ [] else list_of a h) × (length (if b then 0 ∷ [] else list_of a h) ≤ 100)
  home_members h true = ((refl, tt), omega arith)
  home_members h false = (fit.well.distinct h, at (map.get a.lists h) refl)
    where
      at : (o : Option (List ℕ)) → map.get a.lists h ≡ o → length (list_of a h) ≤ 100
      at None e = let none : list_of a h ≡ [] = ap (λ (o : Option (List ℕ)). unwrap_or o []) e in omega (arith, ap length none)
      at (Some ms) e =
          let some : list_of a h ≡ ms = ap (λ (o : Option (List ℕ)). unwrap_or o []) e in
          omega (arith, ap length some, member_list-length ms (open_members d a fit.well fit.from_one h ms e).0)

  members_at : (fact : ℕ) → Once (members_of_home a (home d fact)) × (length (members_of_home a (home d fact)) ≤ 100)
  members_at fact = home_members (home d fact) (nat_eq (home d fact) 0)

  pub slot_place_low : (s : Slot) → place_in s.member (members_of_home a (home d s.fact)) ≤ 100
  slot_place_low s = omega (arith, place_low s.member (members_of_home a (home d s.fact)), (members_at s.fact).1)

  fact_rise : (fact : ℕ) → Pairs (λ s t. slot_number d a s < slot_number d a t) (slots_of d a fact)
  fact_rise fact =
      let ms = members_of_home a (home d fact) in
      pairs_mapped (slot fact) (λ s t. slot_number d a s < slot_number d a t) ms
      (pairs_where (λ (m : ℕ). Unit {0}) (λ m n. place_in m ms < place_in n ms) (λ m n. slot_number d a (slot fact m) < slot_number d a (slot fact n)) (λ m n p q low. omega (arith, low)) ms
      (everywhere (λ (m : ℕ). Unit {0}) (λ m. tt) ms) (places_rise ms (members_at fact).0))

  of_fact : (fact : ℕ) (ms : List ℕ) → AllByRecursion (λ (s : Slot). s.fact ≡ fact) (map (slot fact) ms)
  of_fact fact [] = tt
  of_fact fact (m ∷ ms) = (refl, of_fact fact ms)

  its_fact : (fact : ℕ) → AllByRecursion (λ (s : Slot). s.fact ≡ fact) (slots_of d a fact)
  its_fact fact = of_fact fact (members_of_home a (home d fact))

  of_facts : (from n : ℕ) → AllByRecursion (λ (s : Slot). from ≤ s.fact) (flat_map (slots_of d a) (counted from n))
  of_facts from zero = tt
  of_facts from (suc n) =
      let here = slots_of d a from in
      let later = flat_map (slots_of d a) (counted (suc from) n) in
      all-append (λ (s : Slot). from ≤ s.fact) here later
      (all_where (λ (s : Slot). s.fact ≡ from) (λ (s : Slot). s.fact ≡ from) (λ (s : Slot). from ≤ s.fact) (λ s e also. (let same : s.fact ≡ from = e in omega (arith, same))) here (its_fact from) (its_fact from))
      (all_where (λ (s : Slot). suc from ≤ s.fact) (λ (s : Slot). suc from ≤ s.fact) (λ (s : Slot). from ≤ s.fact) (λ s up also. (let above : suc from ≤ s.fact = up in omega (arith, above))) later (of_facts (suc from) n) (of_facts (suc from) n))

  facts_rise : (from n : ℕ) → Pairs (λ s t. slot_number d a s < slot_number d a t) (flat_map (slots_of d a) (counted from n))
  facts_rise from zero = tt
  facts_rise from (suc n) =
      pairs-append (λ s t. slot_number d a s < slot_number d a t) (slots_of d a from) (flat_map (slots_of d a) (counted (suc from) n)) (fact_rise from) (facts_rise (suc from) n)
      (across (λ s t. slot_number d a s < slot_number d a t) (λ (s : Slot). s.fact ≡ from) (λ (t : Slot). suc from ≤ t.fact)
      (λ s t e up. (let low = slot_place_low s in omega (arith, e, up, low)))
      (slots_of d a from) (flat_map (slots_of d a) (counted (suc from) n)) (its_fact from) (of_facts (suc from) n))

  pub slots_rise : Pairs (λ s t. slot_number d a s < slot_number d a t) (slots d a)
  slots_rise = facts_rise 1 (length d.facts)

-- ==== the list of slots has all that stand

counted-last : (from n : ℕ) → counted from (suc n) ≡ counted from n ++ (from + n) ∷ []
counted-last from zero = let e : from ≡ from + 0 = omega arith in ap (λ (k : ℕ). k ∷ []) e
counted-last from (suc n) =
    let e : suc from + n ≡ from + suc n = omega arith in
    ap (λ (ks : List ℕ). from ∷ ks) (counted-last (suc from) n) ∙ ap (λ (k : ℕ). from ∷ (counted (suc from) n ++ k ∷ [])) e

up_to : (d : Tree) (a : Answered) (n : ℕ) → flat_map (slots_of d a) (counted 1 n) ≡ slots_up_to d a n
up_to d a zero = refl
up_to d a (suc n) =
    let e : 1 + n ≡ suc n = omega arith in
    ap (flat_map (slots_of d a)) (counted-last 1 n)
    ∙ flat_map-append (slots_of d a) (counted 1 n) ((1 + n) ∷ [])
    ∙ ap (λ (ss : List Slot). flat_map (slots_of d a) (counted 1 n) ++ ss) (append-nil (slots_of d a (1 + n)))
    ∙ ap (λ (ss : List Slot). ss ++ slots_of d a (1 + n)) (up_to d a n)
    ∙ ap (λ (k : ℕ). slots_up_to d a n ++ slots_of d a k) e

all_standing : (d : Tree) (a : Answered) → slots d a ≡ standing d a
unfolding standing
all_standing d a = up_to d a (length d.facts)

-- what isn't in the list doesn't stand, and so has nothing
pub none_outside : (d : Tree) (a : Answered) → AnswersFit d a → (side : Side) (s : Slot) → list_any (slot_same s) (slots d a) ≡ false → value_of side a s ≡ None
none_outside d a fit side s out = at (value_of side a s) refl
  where
    stands_not : stands d a s ≡ false
    stands_not = sym (listed_stand d a s) ∙ ap (list_any (slot_same s)) (sym (all_standing d a)) ∙ out

    at : (o : Option Value) → value_of side a s ≡ o → o ≡ None
    at None e = refl
    at (Some v) e = absurd (let may = both (stands d a s) (takes side d s.fact) (fit.placed side s (ap is_some e)) in let there : stands d a s ≡ true = may.0 in let out_too : stands d a s ≡ false = stands_not in cc)

-- what is true of each is true of one that is there
pub at_one : (P : Slot → Type 0) (ks : List Slot) (s : Slot) → AllByRecursion P ks → list_any (slot_same s) ks ≡ true → P s
at_one P [] s all there = absurd cc
at_one P (k ∷ ks) s all there = at (slot_same s k) refl there (at_one P ks s all.1)
  where
    at : (b : Bool) → slot_same s k ≡ b → (b || list_any (slot_same s) ks) ≡ true → (list_any (slot_same s) ks ≡ true → P s) → P s
    at true e there rest = subst P (sym (slot_same-equal s k e)) all.0
    at false e there rest = rest there

-- ==== answers with the same lists, values and overrides are the same

module _ (a b : Answered) (well_a : WellFormed a) (well_b : WellFormed b) (one_a : FromOne a) (one_b : FromOne b) (lists : a.lists ≡ b.lists)
    (values : (side : Side) (s : Slot) → value_of side a s ≡ value_of side b s) where
  -- the facts that stand once
  globals_side : (side : Side) (f : ℕ) → map.get (of_side side a.globals) f ≡ map.get (of_side side b.globals) f
  globals_side side f = values side (slot f 0)

  same_globals : a.globals ≡ b.globals
  same_globals = entry_same a.globals b.globals (same _ _ (globals_side Answer)) (same _ _ (globals_side Override))

  -- the members
  listed_too : (x y : Answered) → x.lists ≡ y.lists → (m : ℕ) → IsListed x m → IsListed y m
  listed_too x y e m i = (i.0, subst (λ (ls : Numbered (List ℕ)). IsIn m (unwrap_or (map.get ls i.0) [])) e i.1)

  there_too : (x y : Answered) → WellFormed x → WellFormed y → x.lists ≡ y.lists → (m : ℕ) → IsSome (map.get x.members m) → IsSome (map.get y.members m)
  there_too x y well_x well_y e m some = let i = listed_too x y e m (well_x.only m some) in well_y.listed i.0 m i.1

  member_side : (side : Side) (m : ℕ) (x y : Entry) → nat_eq m 0 ≡ false → map.get a.members m ≡ Some x → map.get b.members m ≡ Some y → (f : ℕ) → map.get (of_side side x) f ≡ map.get (of_side side y) f
  member_side side m x y other e h f =
      sym (ap (λ (t : Bool). and_then (λ (e : Entry). map.get (of_side side e) f) (if t then Some a.globals else map.get a.members m)) other ∙ ap (and_then (λ (e : Entry). map.get (of_side side e) f)) e)
      ∙ values side (slot f m)
      ∙ ap (λ (t : Bool). and_then (λ (e : Entry). map.get (of_side side e) f) (if t then Some b.globals else map.get b.members m)) other ∙ ap (and_then (λ (e : Entry). map.get (of_side side e) f)) h

  same_member : (m : ℕ) → map.get a.members m ≡ map.get b.members m
  same_member m = at (map.get a.members m) (map.get b.members m) refl refl
    where
      no_zero : (x : Answered) → FromOne x → (e : Entry) → map.get x.members m ≡ Some e → (t : Bool) → nat_eq m 0 ≡ t → t ≡ false
      no_zero x one e h false is = refl
      no_zero x one e h true is = absurd (let zero_is : m ≡ 0 = same_number m 0 is in let none : map.get x.members m ≡ None = ap (map.get x.members) zero_is ∙ one.zero in cc)

      at : (p q : Option Entry) → map.get a.members m ≡ p → map.get b.members m ≡ q → p ≡ q
      at None None e h = refl
      at None (Some y) e h = absurd (none_some (map.get a.members m) e (there_too b a well_b well_a (sym lists) m (ap is_some h)))
      at (Some x) None e h = absurd (none_some (map.get b.members m) h (there_too a b well_a well_b lists m (ap is_some e)))
      at (Some x) (Some y) e h =
          let other = no_zero a one_a x e (nat_eq m 0) refl in
          ap Some (entry_same x y (same _ _ (member_side Answer m x y other e h)) (same _ _ (member_side Override m x y other e h)))

  pub same_answers : a.next ≡ b.next → a ≡ b
  same_answers next = answered_same a b next lists same_globals (same _ _ same_member)
