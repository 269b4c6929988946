-- How a cursor goes through the slots that stand.
use Rattle.saved_text.proofs.Common.{Answered, List, Slot, Tree, [], ap, arith, counted, drop, flat_map, get_or, home, length, map, members_of_home, refl, slot, slots_from, slots_of, suc, sym, zero, ℕ, ◌++◌, ◌-◌, ◌<◌, ◌∙◌, ◌∷◌, ◌≡◌, ◌≤◌}
use Rattle.std.specs.FinMap as map

-- ==== how a cursor goes through the slots that stand

-- ---- facts

pub counted_more : (done count : ℕ) → done < count → counted (suc done) (count - done) ≡ suc done ∷ counted (suc (suc done)) (count - suc done)
counted_more done count low =
    let e : count - done ≡ suc (count - suc done) = omega arith in
    ap (counted (suc done)) e

-- ---- slots of a fact

drop_slots : (fact : ℕ) (members : List ℕ) (gone : ℕ) → gone < length members → drop gone (map (slot fact) members) ≡ slot fact (get_or members gone 0) ∷ drop (suc gone) (map (slot fact) members)
drop_slots fact [] gone low = absurd (omega arith)
drop_slots fact (m ∷ members) zero low = refl
drop_slots fact (m ∷ members) (suc gone) low = drop_slots fact members gone (omega arith)

drop_all_slots : (fact : ℕ) (members : List ℕ) (gone : ℕ) → length members ≤ gone → drop gone (map (slot fact) members) ≡ []
drop_all_slots fact [] zero high = refl
drop_all_slots fact [] (suc gone) high = refl
drop_all_slots fact (m ∷ members) zero high = absurd (omega arith)
drop_all_slots fact (m ∷ members) (suc gone) high = drop_all_slots fact members gone (omega arith)

module _ (d : Tree) (a : Answered) (members : List ℕ) (gone done count : ℕ) (low : done < count) (at : members ≡ members_of_home a (home d (suc done))) where
  -- the next slot of the fact
  pub next_slot : gone < length members
      → slots_from d a gone (counted (suc done) (count - done)) ≡ slot (suc done) (get_or members gone 0) ∷ slots_from d a (suc gone) (counted (suc done) (count - done))
  next_slot more =
      ap (slots_from d a gone) (counted_more done count low)
      ∙ ap (λ (ms : List ℕ). drop gone (map (slot (suc done)) ms) ++ flat_map (slots_of d a) (counted (suc (suc done)) (count - suc done))) (sym at)
      ∙ ap (λ (ss : List Slot). ss ++ flat_map (slots_of d a) (counted (suc (suc done)) (count - suc done))) (drop_slots (suc done) members gone more)
      ∙ ap (λ (ms : List ℕ). slot (suc done) (get_or members gone 0) ∷ (drop (suc gone) (map (slot (suc done)) ms) ++ flat_map (slots_of d a) (counted (suc (suc done)) (count - suc done)))) at
      ∙ ap (λ (fs : List ℕ). slot (suc done) (get_or members gone 0) ∷ slots_from d a (suc gone) fs) (sym (counted_more done count low))

  -- no slot of the fact is left
  pub next_fact : length members ≤ gone
      → slots_from d a gone (counted (suc done) (count - done)) ≡ slots_from d a 0 (counted (suc (suc done)) (count - suc done))
  next_fact none =
      ap (slots_from d a gone) (counted_more done count low)
      ∙ ap (λ (ms : List ℕ). drop gone (map (slot (suc done)) ms) ++ flat_map (slots_of d a) (counted (suc (suc done)) (count - suc done))) (sym at)
      ∙ ap (λ (ss : List Slot). ss ++ flat_map (slots_of d a) (counted (suc (suc done)) (count - suc done))) (drop_all_slots (suc done) members gone none)
      ∙ sym (from_first (counted (suc (suc done)) (count - suc done)))
    where
      from_first : (fs : List ℕ) → slots_from d a 0 fs ≡ flat_map (slots_of d a) fs
      from_first [] = refl
      from_first (f ∷ fs) = refl
