-- How much work a slot's evaluation is.
use Rattle.std.proofs.Common.{◌≡◌, ℕ, ◌+◌, List, Option, Some, None, refl, sym, ap, ◌∙◌}
use Rattle.dict_source.specs.Facts.{Fact}
use Rattle.dict_source.specs.Finding.{fact_at}
use Rattle.dict_source.specs.Tree.{Source}
use Rattle.dict_source.specs.Dictionary.{Dictionary as Tree}
use Rattle.answers.specs.Answered.{Answered}
use Rattle.dict_meaning.specs.Accepted.{Accepted, IsAccepted}
use Rattle.dict_meaning.specs.Plain.{IsPlainBelow, at_fact, body, rank}
use Rattle.evaluation.specs.Results.{slot}
use Rattle.dict_meaning.specs.Weights.{slot_weight}
use Rattle.dict_meaning.proofs.WeightLaws.{fact_weight, weight_over, weight_over_lower}
use Rattle.source_eval.specs.Context.{Context, option_weight}

weighs_alike : (k : Context) (m : ℕ) (t : Option Source) → option_weight k m t ≡ weight_over k.tree k.results (slot k.fact m) t
weighs_alike k m None = refl
weighs_alike k m (Some t) = refl

pub slot_weighs : (names : List (List ℕ)) (d : Accepted) → IsAccepted names d → (a : Answered) (k : Context) (m : ℕ) (f : Fact) → k.tree ≡ d.tree → fact_at d.tree.facts k.fact ≡ Some f
    → IsPlainBelow d a (rank d k.fact) k.results → option_weight k m (body f) + option_weight k m f.placeholder ≡ slot_weight d a (slot k.fact m)
slot_weighs names d accepted a k m f same e below =
    ap (λ n. n + option_weight k m f.placeholder) (weighs_alike k m (body f))
    ∙ ap (λ n. weight_over k.tree k.results (slot k.fact m) (body f) + n) (weighs_alike k m f.placeholder)
    ∙ ap (λ (t : Tree). fact_weight t k.results (slot k.fact m) f) same
    ∙ sym (ap (λ (o : Option Fact). at_fact o 0 (fact_weight d.tree k.results (slot k.fact m))) e)
    ∙ weight_over_lower names d accepted a k.results (slot k.fact m) below
