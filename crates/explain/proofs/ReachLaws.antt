-- What is read is of lower rank, and so a slot reads itself and all that the slots read that it reads.
use Rattle.std.proofs.Common.{◌≡◌, ℕ, zero, suc, ◌<◌, ◌||◌, Bool, true, false, IsTrue, List, [], ◌∷◌, ◌++◌, flat_map, Option, Some, None, refl, sym, ap, subst, ◌∙◌, arith}
use Rattle.fact_paths.specs.declared.use_path.UsePath.{UsePath}
use Rattle.fact_values.specs.declared.slot.Slot.{Slot}
use Rattle.dict_source.specs.Facts.{Fact}
use Rattle.dict_source.specs.Finding.{fact_at}
use Rattle.dict_source.specs.Mentions.{is_same, mention_of, use_mentions}
use Rattle.dict_source.specs.Targets.{targets}
use Rattle.evaluation.specs.Mentioned.{AllOf}
use Rattle.evaluation.proofs.Mentions.{all-left, all-right}
use Rattle.answers.specs.Answered.{Answered}
use Rattle.common_lemmas.proofs.Bools.{and_intro, both, or_right}
use Rattle.dict_meaning.specs.Accepted.{Accepted, IsAccepted}
use Rattle.dict_meaning.specs.Plain.{at_fact, plain, rank}
use Rattle.dict_meaning.specs.Dependencies.{EvalPosition}
use Rattle.dict_meaning.specs.Slots.{slot_same, stands}
use Rattle.dict_meaning.proofs.RankLaws.{IsLowerMention, lower_uses}
use Rattle.dict_meaning.proofs.ReadAgreement.{first_member}
use Rattle.dict_meaning.proofs.SlotLaws.{slot_same-equal}
use Rattle.source_eval.specs.NodeReads.{target_slot}
use Rattle.explain.specs.Reads.{all_reads, fact_reads, is_in, is_read, reads_within, slot_reads, standing_reads}
use Rattle.explain.proofs.FactReads.{HoldsOf, HoldsUnder, of_fact}
use Rattle.explain.proofs.SlotLists.{all_at, in_filter, in_flat_map, is_head, of_flat_map}

-- ---- ranks fall

module _ (d : Accepted) (s : Slot) where
  abbrev IsBelow : Slot → Type 0
  IsBelow t = rank d t.fact < rank d s.fact

  target_below : (same : Bool) (target : Option ℕ) → AllOf (IsLowerMention d s.fact) (mention_of same target) → (m : ℕ) → AllOf IsBelow (target_slot target m)
  target_below same None k m = tt
  target_below same (Some n) k m = (k.0.1, tt)

  below_under : (a : Answered) → HoldsUnder d.tree s.fact (IsLowerMention d s.fact) (λ at. Unit {0}) (plain d a) IsBelow
  below_under a = record { reads = reads; enter = λ at j path k m i. tt }
    where
      reads : (at : EvalPosition) → Unit {0} → (path : UsePath) → AllOf (IsLowerMention d s.fact) (use_mentions d.tree s.fact at.base (Some path)) → HoldsOf (plain d a) (targets d.tree s.fact at.base path) at path IsBelow
      reads at j path k =
          let t = targets d.tree s.fact at.base path in
          let first = target_below (is_same path) t.first (all-left (IsLowerMention d s.fact) (mention_of (is_same path) t.first) (mention_of false t.second) k) in
          let second = target_below false t.second (all-right (IsLowerMention d s.fact) (mention_of (is_same path) t.first) (mention_of false t.second) k) in
          record { once = first 0; first = first (first_member at path); second = λ k m i. second m }

  -- what a slot reads is of lower rank
  pub all_below : (names : List (List ℕ)) → IsAccepted names d → (a : Answered) → AllOf IsBelow (slot_reads d a s)
  all_below names accepted a = by (fact_at d.tree.facts s.fact) refl
    where
      by : (o : Option Fact) → fact_at d.tree.facts s.fact ≡ o → AllOf IsBelow (at_fact o [] (fact_reads d.tree a (plain d a) s))
      by None e = tt
      by (Some f) e = of_fact d.tree a s (IsLowerMention d s.fact) (λ at. Unit {0}) (plain d a) IsBelow (below_under a) tt f (lower_uses names d accepted s.fact f e)

-- of what is read, what stands
pub standing_is : (d : Accepted) (a : Answered) (s t : Slot) → IsTrue (is_in t (standing_reads d a s)) → IsTrue (is_in t (slot_reads d a s)) × IsTrue (stands d.tree a t)
standing_is d a s t i = both (is_in t (slot_reads d a s)) (stands d.tree a t) (sym (in_filter (stands d.tree a) t (slot_reads d a s)) ∙ i)

pub is_standing : (d : Accepted) (a : Answered) (s t : Slot) → IsTrue (is_in t (slot_reads d a s)) → IsTrue (stands d.tree a t) → IsTrue (is_in t (standing_reads d a s))
is_standing d a s t i k = in_filter (stands d.tree a) t (slot_reads d a s) ∙ and_intro (is_in t (slot_reads d a s)) (stands d.tree a t) i k

-- ---- over as many steps as the rank

within-zero : (d : Accepted) (a : Answered) (s : Slot) → reads_within d a zero s ≡ []
unfolding reads_within
within-zero d a s = refl

within-suc : (d : Accepted) (a : Answered) (n : ℕ) (s : Slot) → reads_within d a (suc n) s ≡ s ∷ flat_map (reads_within d a n) (standing_reads d a s)
unfolding reads_within
within-suc d a n s = refl

all_reads-is : (d : Accepted) (a : Answered) (s : Slot) → all_reads d a s ≡ reads_within d a (suc (rank d s.fact)) s
unfolding all_reads
all_reads-is d a s = refl

flat_same : (f g : Slot → List Slot) (xs : List Slot) → ((x : Slot) → IsTrue (is_in x xs) → f x ≡ g x) → flat_map f xs ≡ flat_map g xs
flat_same f g [] h = refl
flat_same f g (x ∷ xs) h =
    ap (λ l. l ++ flat_map f xs) (h x (is_head x xs)) ∙ ap (λ l. g x ++ l) (flat_same f g xs (λ y i. h y (or_right (slot_same y x) (is_in y xs) i)))

module _ (names : List (List ℕ)) (d : Accepted) (accepted : IsAccepted names d) (a : Answered) where
  pub falls : (s t : Slot) → IsTrue (is_in t (standing_reads d a s)) → rank d t.fact < rank d s.fact
  falls s t i = all_at (λ (u : Slot). rank d u.fact < rank d s.fact) (slot_reads d a s) (all_below d s names accepted a) t (standing_is d a s t i).0

  -- more steps read no more
  same_within : (n m : ℕ) (s : Slot) → rank d s.fact < n → rank d s.fact < m → reads_within d a n s ≡ reads_within d a m s
  same_within zero m s h k = absurd (omega arith)
  same_within (suc n) zero s h k = absurd (omega arith)
  same_within (suc n) (suc m) s h k =
      within-suc d a n s
      ∙ ap (λ l. s ∷ l) (flat_same (reads_within d a n) (reads_within d a m) (standing_reads d a s) (λ t i. let low = falls s t i in same_within n m t (omega arith) (omega arith)))
      ∙ sym (within-suc d a m s)

  pub reads-recursive : (s : Slot) → all_reads d a s ≡ s ∷ flat_map (all_reads d a) (standing_reads d a s)
  reads-recursive s =
      all_reads-is d a s
      ∙ within-suc d a (rank d s.fact) s
      ∙ ap (λ l. s ∷ l)
      (flat_same (reads_within d a (rank d s.fact)) (all_reads d a) (standing_reads d a s)
      (λ t i. let low = falls s t i in same_within (rank d s.fact) (suc (rank d t.fact)) t low (omega arith) ∙ sym (all_reads-is d a t)))

  -- ---- what is read

  pub reads_itself : (s : Slot) → IsTrue (is_read d a s s)
  reads_itself s = ap (is_in s) (reads-recursive s) ∙ is_head s (flat_map (all_reads d a) (standing_reads d a s))

  -- what is read by what a slot reads
  pub reads_by_way : (s u t : Slot) → IsTrue (is_in u (standing_reads d a s)) → IsTrue (is_read d a u t) → IsTrue (is_read d a s t)
  reads_by_way s u t i h =
      ap (is_in t) (reads-recursive s)
      ∙ or_right (slot_same t s) (is_in t (flat_map (all_reads d a) (standing_reads d a s))) (in_flat_map (all_reads d a) u t (standing_reads d a s) i h)

  -- what what is read reads
  reads_on_within : (n : ℕ) (s t u : Slot) → rank d s.fact < n → IsTrue (is_in t (reads_within d a n s)) → IsTrue (is_in u (standing_reads d a t)) → IsTrue (is_read d a s u)
  reads_on_within zero s t u low i h = absurd (omega arith)
  reads_on_within (suc n) s t u low i h = by (slot_same t s) refl (ap (is_in t) (sym (within-suc d a n s)) ∙ i) (λ v k j. reads_on_within n v t u (let less = falls s v k in omega arith) j h)
    where
      by : (same : Bool) → slot_same t s ≡ same → IsTrue (same || is_in t (flat_map (reads_within d a n) (standing_reads d a s))) → ((v : Slot) → IsTrue (is_in v (standing_reads d a s)) → IsTrue (is_in t (reads_within d a n v)) → IsTrue (is_read d a v u)) → IsTrue (is_read d a s u)
      by true e i rest = reads_by_way s u u (subst (λ (x : Slot). IsTrue (is_in u (standing_reads d a x))) (slot_same-equal t s e) h) (reads_itself u)
      by false e i rest =
          let way = of_flat_map (reads_within d a n) t (standing_reads d a s) i in
          reads_by_way s way.0 u way.1 (rest way.0 way.1 way.2)

  pub reads_on : (s t u : Slot) → IsTrue (is_read d a s t) → IsTrue (is_in u (standing_reads d a t)) → IsTrue (is_read d a s u)
  reads_on s t u i h = reads_on_within (suc (rank d s.fact)) s t u (omega arith) (ap (is_in t) (sym (all_reads-is d a s)) ∙ i) h

-- a set that has a slot, and all that each of its slots reads, has all that the slot reads
pub closed_has : (d : Accepted) (a : Answered) (p : Slot → Bool) → ((t u : Slot) → IsTrue (p t) → IsTrue (is_in u (standing_reads d a t)) → IsTrue (p u)) → (n : ℕ) (s t : Slot) → IsTrue (p s) → IsTrue (is_in t (reads_within d a n s)) → IsTrue (p t)
closed_has d a p closed zero s t h i = absurd (let no : false ≡ true = ap (is_in t) (sym (within-zero d a s)) ∙ i in cc)
closed_has d a p closed (suc n) s t h i = by (slot_same t s) refl (ap (is_in t) (sym (within-suc d a n s)) ∙ i) (λ v k j. closed_has d a p closed n v t (closed s v h k) j)
  where
    by : (same : Bool) → slot_same t s ≡ same → IsTrue (same || is_in t (flat_map (reads_within d a n) (standing_reads d a s))) → ((v : Slot) → IsTrue (is_in v (standing_reads d a s)) → IsTrue (is_in t (reads_within d a n v)) → IsTrue (p t)) → IsTrue (p t)
    by true e i rest = subst (λ (u : Slot). IsTrue (p u)) (sym (slot_same-equal t s e)) h
    by false e i rest = let way = of_flat_map (reads_within d a n) t (standing_reads d a s) i in rest way.0 way.1 way.2

pub closed_reads : (d : Accepted) (a : Answered) (p : Slot → Bool) → ((t u : Slot) → IsTrue (p t) → IsTrue (is_in u (standing_reads d a t)) → IsTrue (p u)) → (s t : Slot) → IsTrue (p s) → IsTrue (is_read d a s t) → IsTrue (p t)
closed_reads d a p closed s t h i = closed_has d a p closed (suc (rank d s.fact)) s t h (ap (is_in t) (sym (all_reads-is d a s)) ∙ i)
