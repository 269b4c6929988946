-- The nodes that a slot's evaluation visits are had over any map that has plain evaluation of the facts of lower rank, and are
-- no more than the slot weighs.
use Rattle.std.proofs.Common.{◌≡◌, ℕ, ◌+◌, ◌≤◌, Bool, true, false, if◌then◌else◌, Option, Some, None, refl, sym, ap, subst, ◌∙◌, arith}
use Rattle.fact_values.specs.declared.slot.Slot.{Slot}
use Rattle.fact_values.specs.declared.value.Value.{Value}
use Rattle.dict_source.specs.declared.mentions.Mention.{Mention}
use Rattle.dict_source.specs.Dictionary.{Dictionary as Tree}
use Rattle.dict_source.specs.Facts.{Fact, Stated}
use Rattle.dict_source.specs.Finding.{fact_at}
use Rattle.dict_source.specs.Tree.{Source}
use Rattle.three_state.specs.declared.res.Res.{Res}
use Rattle.three_state.specs.Results.{is_incomplete}
use Rattle.evaluation.proofs.VisitLaws.{visits-within-weight}
use Rattle.answers.specs.Answered.{Answered, value_of}
use Rattle.answers.specs.declared.edit.Side.TheVariants.{Override}
use Rattle.dict_meaning.specs.Plain.{at_fact, body, main_result, or_override, plain}
use Rattle.dict_meaning.specs.Dependencies.{EvalPosition, outermost, source_env}
use Rattle.evaluation.specs.Results.{Results}
use Rattle.dict_meaning.proofs.FactMentions.{EachUse}
use Rattle.dict_meaning.proofs.PlainLaws.{agree_under}
use Rattle.dict_meaning.proofs.RankLaws.{IsLowerMention, lower_uses}
use Rattle.dict_meaning.proofs.ReadAgreement.{AgreeUnder, expression_same, visits_same}
use Rattle.dict_meaning.proofs.WeightLaws.{fact_weight, weight_is, weight_over}
use Rattle.visit_counts.specs.SlotVisits.{SlotVisitsWithinWeight, VisitsOverLower, body_visits, placeholder_visits, slot_visits, unless_given, visits_over}

-- ---- over two maps that agree on what the slot's fact reads

module _ (d : Tree) (a : Answered) (results results' : Results) (s : Slot) (M : Mention → Type 0) (J : EvalPosition → Type 0) (h : AgreeUnder d s.fact M J results results') (j : J (outermost s.member)) where
  main_alike : (stated : Stated) (t : Option Source) → EachUse d s.fact M t → main_result d a results s stated t ≡ main_result d a results' s stated t
  main_alike stated None k = refl
  main_alike stated (Some t) k = ap (or_override (value_of Override a s)) (expression_same d s.fact M J results results' h t k s.member j)

  body_alike : (t : Option Source) → EachUse d s.fact M t → body_visits d a results s t ≡ body_visits d a results' s t
  body_alike None k = refl
  body_alike (Some t) k = ap (unless_given (value_of Override a s)) (visits_same d s.fact M J results results' h t k s.member j)

  placeholder_alike : (t : Option Source) (r : Res) → EachUse d s.fact M t → placeholder_visits d results s t r ≡ placeholder_visits d results' s t r
  placeholder_alike None r k = refl
  placeholder_alike (Some t) r k = ap (λ n. if is_incomplete r then n else 0) (visits_same d s.fact M J results results' h t k s.member j)

  visits_alike : (f : Fact) → EachUse d s.fact M (body f) × EachUse d s.fact M f.placeholder → visits_over d a results s f ≡ visits_over d a results' s f
  visits_alike f k =
      ap (λ n. n + placeholder_visits d results s f.placeholder (main_result d a results s f.stated (body f))) (body_alike (body f) k.0)
      ∙ ap (λ n. body_visits d a results' s (body f) + n) (placeholder_alike f.placeholder (main_result d a results s f.stated (body f)) k.1)
      ∙ ap (λ r. body_visits d a results' s (body f) + placeholder_visits d results' s f.placeholder r) (main_alike f.stated (body f) k.0)

pub visits_over_lower : VisitsOverLower
visits_over_lower names d accepted a results s f e below =
    visits_alike d.tree a results (plain d a) s (IsLowerMention d s.fact) (λ at. Unit {0}) (agree_under d s.fact results (plain d a) (λ t low. below t low.0 low.1)) tt f (lower_uses names d accepted s.fact f e)
    ∙ sym (ap (λ (o : Option Fact). at_fact o 0 (visits_over d.tree a (plain d a) s)) e)

-- ---- within the weight

unless_within : (o : Option Value) (n w : ℕ) → n ≤ w → unless_given o n ≤ w
unless_within None n w h = h
unless_within (Some v) n w h = omega arith

if_within : (b : Bool) (n w : ℕ) → n ≤ w → (if b then n else 0) ≤ w
if_within true n w h = h
if_within false n w h = omega arith

both_within : (x y u w : ℕ) → x ≤ u → y ≤ w → x + y ≤ u + w
both_within x y u w h k = omega (arith, h, k)

module _ (d : Tree) (a : Answered) (results : Results) (s : Slot) where
  body_within : (t : Option Source) → body_visits d a results s t ≤ weight_over d results s t
  body_within None = omega arith
  body_within (Some t) = unless_within (value_of Override a s) _ _ (visits-within-weight (source_env d results s.fact) (outermost s.member) t)

  placeholder_within : (t : Option Source) (r : Res) → placeholder_visits d results s t r ≤ weight_over d results s t
  placeholder_within None r = omega arith
  placeholder_within (Some t) r = if_within (is_incomplete r) _ _ (visits-within-weight (source_env d results s.fact) (outermost s.member) t)

  within : (o : Option Fact) → at_fact o 0 (visits_over d a results s) ≤ at_fact o 0 (fact_weight d results s)
  within None = omega arith
  within (Some f) = both_within _ _ _ _ (body_within (body f)) (placeholder_within f.placeholder (main_result d a results s f.stated (body f)))

pub slot_visits_within_weight : SlotVisitsWithinWeight
slot_visits_within_weight d a s = subst (λ n. slot_visits d a s ≤ n) (sym (weight_is d a s)) (within d.tree a (plain d a) s (fact_at d.tree.facts s.fact))
