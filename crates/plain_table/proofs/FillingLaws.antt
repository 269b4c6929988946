-- The result of a slot over those of lower facts is plain evaluation.
use Rattle.std.proofs.Common.{◌≡◌, ℕ, Bool, IsTrue, if◌then◌else◌, List, Option, Some, None, sym, ap, ◌∙◌}
use Rattle.fact_values.specs.declared.slot.Slot.{Slot}
use Rattle.dict_source.specs.Facts.{Fact}
use Rattle.dict_source.specs.Finding.{fact_at}
use Rattle.answers.specs.Answered.{Answered}
use Rattle.dict_meaning.specs.Accepted.{Accepted, IsAccepted}
use Rattle.dict_meaning.specs.Plain.{IsPlainBelow, at_fact, plain, rank, slot_result}
use Rattle.evaluation.specs.Results.{Results}
use Rattle.dict_meaning.specs.Slots.{stands}
use Rattle.dict_meaning.proofs.PlainLaws.{step_over_lower}

-- where the slot stands, its result over lower facts is plain evaluation
pub result_is_plain : (names : List (List ℕ)) (d : Accepted) → IsAccepted names d → (a : Answered) (results : Results) (s : Slot) (f : Fact) → fact_at d.tree.facts s.fact ≡ Some f
    → IsTrue (stands d.tree a s) → IsPlainBelow d a (rank d s.fact) results → Some (slot_result d.tree a results s f) ≡ plain d a s
result_is_plain names d accepted a results s f e here below =
    sym (ap (λ (o : Option Fact). at_fact o None (λ f. if stands d.tree a s then Some (slot_result d.tree a results s f) else None)) e
    ∙ ap (λ (b : Bool). if b then Some (slot_result d.tree a results s f) else None) here)
    ∙ step_over_lower names d accepted a results s below
