-- Where two maps of results agree on what a slot's fact reads, the slot has one weight over both.
use Rattle.std.proofs.Common.{◌≡◌, ℕ, ◌+◌, List, Option, Some, None, refl, sym, ap, ◌∙◌}
use Rattle.fact_values.specs.declared.slot.Slot.{Slot}
use Rattle.dict_source.specs.declared.mentions.Mention.{Mention}
use Rattle.dict_source.specs.Dictionary.{Dictionary as Tree}
use Rattle.dict_source.specs.Facts.{Fact}
use Rattle.dict_source.specs.Finding.{fact_at}
use Rattle.dict_source.specs.Tree.{Source}
use Rattle.evaluation.specs.Over.{weight}
use Rattle.answers.specs.Answered.{Answered}
use Rattle.dict_meaning.specs.Accepted.{Accepted, IsAccepted}
use Rattle.dict_meaning.specs.Plain.{IsPlainBelow, at_fact, body, plain, rank}
use Rattle.dict_meaning.specs.Dependencies.{EvalPosition, outermost, source_env}
use Rattle.evaluation.specs.Results.{Results}
use Rattle.dict_meaning.specs.Weights.{expression_weight, slot_weight}
use Rattle.dict_meaning.proofs.FactMentions.{EachUse}
use Rattle.dict_meaning.proofs.PlainLaws.{AgreeBelow, agree_under as agree_below, at_fact_same}
use Rattle.dict_meaning.proofs.RankLaws.{IsLowerMention, lower_uses}
use Rattle.dict_meaning.proofs.ReadAgreement.{AgreeUnder, weight_same}

-- the weight of an expression of the slot's fact, and of the slot, over a map
abbrev pub weight_over : Tree → Results → Slot → Option Source → ℕ
weight_over d results s None = 0
weight_over d results s (Some t) = weight (source_env d results s.fact) (outermost s.member) t

abbrev pub fact_weight : Tree → Results → Slot → Fact → ℕ
fact_weight d results s f = weight_over d results s (body f) + weight_over d results s f.placeholder

module _ (d : Tree) (results results' : Results) (s : Slot) (M : Mention → Type 0) (J : EvalPosition → Type 0) (h : AgreeUnder d s.fact M J results results') (j : J (outermost s.member)) where
  one_same : (t : Option Source) → EachUse d s.fact M t → weight_over d results s t ≡ weight_over d results' s t
  one_same None k = refl
  one_same (Some t) k = weight_same d s.fact M J results results' h t k s.member j

  fact_same : (f : Fact) → EachUse d s.fact M (body f) × EachUse d s.fact M f.placeholder → fact_weight d results s f ≡ fact_weight d results' s f
  fact_same f k =
      ap (λ n. n + weight_over d results s f.placeholder) (one_same (body f) k.0) ∙ ap (λ n. weight_over d results' s (body f) + n) (one_same f.placeholder k.1)

-- over a map that agrees with another on the facts of lower rank
pub lower_weighs : (names : List (List ℕ)) (d : Accepted) → IsAccepted names d → (results results' : Results) (s : Slot) (f : Fact) → fact_at d.tree.facts s.fact ≡ Some f → AgreeBelow d s.fact results results' → fact_weight d.tree results s f ≡ fact_weight d.tree results' s f
lower_weighs names d accepted results results' s f e h =
    fact_same d.tree results results' s (IsLowerMention d s.fact) (λ at. Unit {0}) (agree_below d s.fact results results' h) tt f (lower_uses names d accepted s.fact f e)

-- over plain evaluation it is the slot's weight
weighs_alike : (d : Accepted) (a : Answered) (s : Slot) (t : Option Source) → expression_weight d a s t ≡ weight_over d.tree (plain d a) s t
weighs_alike d a s None = refl
weighs_alike d a s (Some t) = refl

pub weight_is : (d : Accepted) (a : Answered) (s : Slot) → slot_weight d a s ≡ at_fact (fact_at d.tree.facts s.fact) 0 (fact_weight d.tree (plain d a) s)
weight_is d a s = at_fact_same (fact_at d.tree.facts s.fact) 0 _ _ (λ f e.
    ap (λ n. n + expression_weight d a s f.placeholder) (weighs_alike d a s (body f)) ∙ ap (λ n. weight_over d.tree (plain d a) s (body f) + n) (weighs_alike d a s f.placeholder))

-- so the weight of a slot is had over any map that has plain evaluation of the facts of lower rank
pub weight_over_lower : (names : List (List ℕ)) (d : Accepted) → IsAccepted names d → (a : Answered) (results : Results) (s : Slot) → IsPlainBelow d a (rank d s.fact) results → at_fact (fact_at d.tree.facts s.fact) 0 (fact_weight d.tree results s) ≡ slot_weight d a s
weight_over_lower names d accepted a results s h =
    at_fact_same (fact_at d.tree.facts s.fact) 0 _ _ (λ f e. lower_weighs names d accepted results (plain d a) s f e (λ t low. h t low.0 low.1))
    ∙ sym (weight_is d a s)
