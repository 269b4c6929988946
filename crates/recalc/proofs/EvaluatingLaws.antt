-- A slot that is evaluated over new results gets its new result, and that takes as many steps as it visits nodes, and no more than
-- it weighs.
use Rattle.std.proofs.Common.{◌≡◌, ℕ, ◌+◌, IsTrue, if◌then◌else◌, List, Option, Some, None, refl, sym, ap, ◌∙◌}
use Rattle.fact_values.specs.declared.slot.Slot.{Slot}
use Rattle.dict_source.specs.Dictionary.{Dictionary as Tree}
use Rattle.dict_source.specs.Facts.{Fact}
use Rattle.dict_source.specs.Finding.{fact_at}
use Rattle.dict_source.specs.Tree.{Source}
use Rattle.three_state.specs.declared.res.Res.{Res}
use Rattle.answers.specs.Answered.{Answered}
use Rattle.dict_meaning.specs.Accepted.{Accepted, IsAccepted}
use Rattle.dict_meaning.specs.Plain.{at_fact, body, IsPlainBelow, plain, rank, slot_result}
use Rattle.evaluation.specs.Results.{Results}
use Rattle.dict_meaning.specs.Slots.{stands}
use Rattle.dict_meaning.specs.Weights.{slot_weight}
use Rattle.dict_meaning.proofs.PlainLaws.{step_over_lower}
use Rattle.dict_meaning.proofs.WeightLaws.{fact_weight, weight_over, weight_over_lower}
use Rattle.visit_counts.specs.SlotVisits.{slot_visits}
use Rattle.visit_counts.proofs.SlotVisitLaws.{visits_over_lower}
use Rattle.node_eval.specs.View.{Compiled as NodeTree}
use Rattle.node_compile.specs.Compiled.{IsCompiled, IsNodeOf, main_of, placeholder_of}
use Rattle.node_compile.specs.Laws.{node_weight, result_by_nodes, visits_by_nodes, weight_by_nodes}
use Rattle.node_compile.specs.declared.compiled.Compiled.{Compiled}
use Rattle.node_compile.proofs.SlotLaws.{main_node, nodes_give_slots, nodes_visit_slots, placeholder_node}

one_weighs : (d : Tree) (results : Results) (s : Slot) (t : Option Source) (n : Option NodeTree) → IsNodeOf d s.fact t n → node_weight results s n ≡ weight_over d results s t
one_weighs d results s None None h = refl
one_weighs d results s None (Some node) h = absurd h
one_weighs d results s (Some t) None h = absurd h
one_weighs d results s (Some t) (Some node) h = h.weight results s.member 0

module _ (names : List (List ℕ)) (d : Accepted) (accepted : IsAccepted names d) (c : Compiled) (is : IsCompiled d.tree c) (a : Answered) (results : Results) (s : Slot) (f : Fact) (e : fact_at d.tree.facts s.fact ≡ Some f)
    (below : IsPlainBelow d a (rank d s.fact) results) where
  pub nodes_give_plain : IsTrue (stands d.tree a s) → Some (result_by_nodes c a results s f.stated) ≡ plain d a s
  nodes_give_plain there =
      ap (λ (r : Res). Some r) (sym (nodes_give_slots d.tree c is a results s f e))
      ∙ sym (ap (λ (o : Option Fact). at_fact o None (λ g. if stands d.tree a s then Some (slot_result d.tree a results s g) else None)) e
      ∙ ap (λ b. if b then Some (slot_result d.tree a results s f) else None) there)
      ∙ step_over_lower names d accepted a results s below

  pub nodes_visit : visits_by_nodes c a results s f.stated ≡ slot_visits d a s
  nodes_visit = sym (nodes_visit_slots d.tree c is a results s f e) ∙ visits_over_lower names d accepted a results s f e below

  pub nodes_weigh : weight_by_nodes c results s ≡ slot_weight d a s
  nodes_weigh =
      ap (λ n. n + node_weight results s (placeholder_of c s.fact)) (one_weighs d.tree results s (body f) (main_of c s.fact) (main_node d.tree c is s.fact f e))
      ∙ ap (λ n. weight_over d.tree results s (body f) + n) (one_weighs d.tree results s f.placeholder (placeholder_of c s.fact) (placeholder_node d.tree c is s.fact f e))
      ∙ sym (ap (λ (o : Option Fact). at_fact o 0 (fact_weight d.tree results s)) e)
      ∙ weight_over_lower names d accepted a results s below
