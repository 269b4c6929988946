-- Plain evaluation is one step over itself.
use Rattle.std.proofs.Common.{◌≡◌, ℕ, zero, suc, ◌<◌, Bool, true, false, ◌&&◌, nat_lt, if◌then◌else◌, List, Option, Some, None, is_some, refl, sym, ap, ◌∙◌, arith, unwrap_or}
use Rattle.std.proofs.lemmas.Bool.Decides.{nat_tests}
use Rattle.fact_values.specs.declared.slot.Slot.{Slot}
use Rattle.fact_values.specs.declared.value.Value.{Value}
use Rattle.fact_paths.specs.declared.use_path.UsePath.{UsePath}
use Rattle.dict_source.specs.Facts.{Fact}
use Rattle.dict_source.specs.Finding.{fact_at}
use Rattle.dict_source.specs.Mentions.{is_same, mention_of, use_mentions}
use Rattle.dict_source.specs.Targets.{targets}
use Rattle.three_state.specs.declared.res.Res.{Res}
use Rattle.three_state.specs.declared.res.Res.TheVariants.{Complete, Incomplete}
use Rattle.evaluation.specs.Mentioned.{AllOf}
use Rattle.evaluation.proofs.Mentions.{all-left, all-right}
use Rattle.answers.specs.Answered.{Answered}
use Rattle.dict_meaning.specs.Accepted.{Accepted, IsAccepted}
use Rattle.dict_meaning.specs.Homes.{home}
use Rattle.dict_meaning.specs.Plain.{HasKnown, IsPlainBelow, at_fact, plain, plain_step, rank, slot_result, table}
use Rattle.dict_meaning.specs.Dependencies.{EvalPosition}
use Rattle.evaluation.specs.Results.{Results, slot}
use Rattle.dict_meaning.specs.Slots.{stands, stands_of}
use Rattle.dict_meaning.proofs.RankLaws.{IsLower, IsLowerMention, lower_uses}
use Rattle.dict_meaning.proofs.ReadAgreement.{AgreeOn, AgreeUnder, IsSameAt, slot_same}
use Rattle.common_lemmas.proofs.Options.{nothing}

-- ---- maps that agree on the facts of lower rank

abbrev pub AgreeBelow : Accepted → ℕ → Results → Results → Type 0
AgreeBelow d fact results results' = (s : Slot) → IsLower d fact s.fact → results s ≡ results' s

same_target : (d : Accepted) (fact : ℕ) (results results' : Results) → AgreeBelow d fact results results' → (same : Bool) (target : Option ℕ) → AllOf (IsLowerMention d fact) (mention_of same target) → (m : ℕ) → IsSameAt results results' target m
same_target d fact results results' h same None k m = refl
same_target d fact results results' h same (Some n) k m = ap (λ r. unwrap_or r Incomplete) (h (slot n m) k.0)

pub agree_under : (d : Accepted) (fact : ℕ) (results results' : Results) → AgreeBelow d fact results results' → AgreeUnder d.tree fact (IsLowerMention d fact) (λ at. Unit {0}) results results'
agree_under d fact results results' h = record { reads = reads; enter = λ at j path k m i. tt }
  where
    reads : (at : EvalPosition) → Unit {0} → (path : UsePath) → AllOf (IsLowerMention d fact) (use_mentions d.tree fact at.base (Some path)) → AgreeOn results results' (targets d.tree fact at.base path) at path
    reads at j path k =
        let t = targets d.tree fact at.base path in
        let first = same_target d fact results results' h (is_same path) t.first (all-left (IsLowerMention d fact) (mention_of (is_same path) t.first) (mention_of false t.second) k) in
        let second = same_target d fact results results' h false t.second (all-right (IsLowerMention d fact) (mention_of (is_same path) t.first) (mention_of false t.second) k) in
        record { once = first 0; first = first _; second = λ k e m i. second m }

-- a slot's result rests on the facts of lower rank alone
pub slot_agrees : (names : List (List ℕ)) (d : Accepted) → IsAccepted names d → (a : Answered) (results results' : Results) (s : Slot) (f : Fact) → fact_at d.tree.facts s.fact ≡ Some f → AgreeBelow d s.fact results results' → slot_result d.tree a results s f ≡ slot_result d.tree a results' s f
slot_agrees names d accepted a results results' s f e h =
    slot_same d.tree a a results results' s (IsLowerMention d s.fact) (λ at. Unit {0}) (agree_under d s.fact results results' h) tt f (record { value = refl; override = refl }) (lower_uses names d accepted s.fact f e)

-- ---- cases of a fact

pub at_fact_same : {A : Type 0} (o : Option Fact) (none : A) (F G : Fact → A) → ((f : Fact) → o ≡ Some f → F f ≡ G f) → at_fact o none F ≡ at_fact o none G
at_fact_same None none F G h = refl
at_fact_same (Some f) none F G h = h f refl

-- a test that is true falls away
if_both : {A : Type 0} (b c : Bool) (x y : Option A) → b ≡ true → x ≡ y → (if b && c then x else None) ≡ (if c then y else None)
if_both true c x y e h = ap (λ o. if c then o else None) h
if_both false c x y e h = absurd (cc)

below : (r n : ℕ) → r < suc n → nat_lt r (suc n) ≡ true
below r n h = grind (arith, nat_tests)

-- ---- the tables agree

module _ (names : List (List ℕ)) (d : Accepted) (accepted : IsAccepted names d) (a : Answered) where
  -- one row, over any map that agrees with the table below
  row : (n : ℕ) (s : Slot) (results : Results) → rank d s.fact < suc n → AgreeBelow d s.fact (table d a n) results → table d a (suc n) s ≡ plain_step d a results s
  unfolding table
  row n s results low h =
      at_fact_same (fact_at d.tree.facts s.fact) None _ _ (λ f e.
      if_both (nat_lt (rank d s.fact) (suc n)) (stands d.tree a s) (Some (slot_result d.tree a (table d a n) s f)) (Some (slot_result d.tree a results s f))
      (below (rank d s.fact) n low) (ap (λ (r : Res). Some r) (slot_agrees names d accepted a (table d a n) results s f e h)))

  tables_agree : (n m : ℕ) (s : Slot) → rank d s.fact < n → rank d s.fact < m → table d a n s ≡ table d a m s
  tables_agree zero m s h k = absurd (omega arith)
  tables_agree (suc n) zero s h k = absurd (omega arith)
  tables_agree (suc n) (suc m) s h k =
      row n s (table d a m) h (λ t low. tables_agree n m t (let l = low.1 in omega arith) (let l = low.1 in omega arith))
      ∙ sym (row m s (table d a m) k (λ t low. refl))

  table_is_plain : (n : ℕ) (s : Slot) → rank d s.fact < n → table d a n s ≡ plain d a s
  unfolding plain
  table_is_plain n s h = tables_agree n (suc (rank d s.fact)) s h (omega arith)

  pub plain_is_recursive : (s : Slot) → plain d a s ≡ plain_step d a (plain d a) s
  plain_is_recursive s =
      sym (table_is_plain (suc (rank d s.fact)) s (omega arith))
      ∙ row (rank d s.fact) s (plain d a) (omega arith) (λ t low. table_is_plain (rank d s.fact) t low.1)

  -- ---- maps that have plain evaluation below a rank

  step_agrees : (results results' : Results) (s : Slot) → AgreeBelow d s.fact results results' → plain_step d a results s ≡ plain_step d a results' s
  step_agrees results results' s h = at_fact_same (fact_at d.tree.facts s.fact) None _ _ (λ f e. ap (λ (r : Res). if stands d.tree a s then Some r else None) (slot_agrees names d accepted a results results' s f e h))

  pub step_over_lower : (results : Results) (s : Slot) → IsPlainBelow d a (rank d s.fact) results → plain_step d a results s ≡ plain d a s
  step_over_lower results s h = step_agrees results (plain d a) s (λ t low. h t low.0 low.1) ∙ sym (plain_is_recursive s)

  -- ---- known values

  abbrev IsStep : (Slot → Option Value) → Type 0
  IsStep known = (s : Slot) (v : Value) → known s ≡ Some v → (results : Results) → HasKnown d known (rank d s.fact) results → plain_step d a results s ≡ Some (Complete v)

  known_below : (known : Slot → Option Value) → IsStep known → (n : ℕ) → HasKnown d known n (plain d a)
  known_below known step zero s v e low = absurd (omega arith)
  known_below known step (suc n) s v e low =
      plain_is_recursive s ∙ step s v e (plain d a) (λ t w k l. known_below known step n t w k (omega arith))

  pub joined_by_rank : (known : Slot → Option Value) → IsStep known → (s : Slot) (v : Value) → known s ≡ Some v → plain d a s ≡ Some (Complete v)
  joined_by_rank known step s v e = known_below known step (suc (rank d s.fact)) s v e (omega arith)

-- ---- exactly the slots that stand have a result

some_if : {A : Type 0} (b c : Bool) (x : A) → b ≡ true → is_some (if b && c then Some x else None) ≡ c
some_if true true x e = refl
some_if true false x e = refl
some_if false c x e = absurd (cc)

standing_have_results_at : (a : Answered) (h m r : ℕ) (o : Option Fact) (result : Fact → Res) → is_some (at_fact o None (λ f. if nat_lt r (suc r) && stands_of a h m o then Some (result f) else None)) ≡ stands_of a h m o
standing_have_results_at a h m r None result = refl
standing_have_results_at a h m r (Some f) result = some_if (nat_lt r (suc r)) (stands_of a h m (Some f)) (result f) (below r r (omega arith))

pub standing_have_results : (d : Accepted) (a : Answered) (s : Slot) → is_some (plain d a s) ≡ stands d.tree a s
unfolding plain table
standing_have_results d a s =
    standing_have_results_at a (home d.tree s.fact) s.member (rank d s.fact) (fact_at d.tree.facts s.fact) (slot_result d.tree a (table d a (rank d s.fact)) s)

-- what doesn't stand has no result
pub no_result : (d : Accepted) (a : Answered) (s : Slot) → stands d.tree a s ≡ false → plain d a s ≡ None
no_result d a s h = nothing (plain d a s) (standing_have_results d a s ∙ h)
