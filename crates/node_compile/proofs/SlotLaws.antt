-- What a slot gives and weighs, and the nodes that its evaluation visits, by the nodes of its fact.
use Rattle.std.proofs.Common.{◌≡◌, ℕ, ◌+◌, if◌then◌else◌, List, Option, Some, None, refl, sym, ap, subst, ◌∙◌}
use Rattle.std.specs.Prelude.{option_and_then}
use Rattle.fact_values.specs.declared.slot.Slot.{Slot}
use Rattle.dict_source.specs.Dictionary.{Dictionary as Tree}
use Rattle.dict_source.specs.Facts.{Fact, Stated}
use Rattle.dict_source.specs.Finding.{fact_at}
use Rattle.dict_source.specs.Tree.{Source}
use Rattle.three_state.specs.Results.{down, is_incomplete}
use Rattle.three_state.specs.declared.res.Res.{Res}
use Rattle.three_state.specs.declared.res.Res.TheVariants.{Complete, Placeholder, Incomplete, Fault}
use Rattle.answers.specs.Answered.{Answered, value_of}
use Rattle.answers.specs.declared.edit.Side.TheVariants.{Override}
use Rattle.dict_meaning.specs.Accepted.{Accepted, IsAccepted}
use Rattle.dict_meaning.specs.Fits.{AnswersFit, domains}
use Rattle.dict_meaning.specs.Plain.{at_fact, body, main_result, or_override, or_placeholder, plain}
use Rattle.dict_meaning.specs.Weights.{expression_weight}
use Rattle.dict_meaning.proofs.TypedResultLaws.{plain_typed}
use Rattle.visit_counts.specs.SlotVisits.{body_visits, placeholder_visits, unless_given}
use Rattle.evaluation.specs.Results.{Results}
use Rattle.node_eval.specs.View.{Compiled as NodeTree}
use Rattle.node_eval.specs.declared.node_position.NodePosition.{NodePosition}
use Rattle.node_compile.specs.Compiled.{IsCompiled, IsNodeOf, main_of, placeholder_of}
use Rattle.node_compile.specs.Laws.{MeetsTypes, NodesGiveSlots, NodesMeetTypes, NodesVisitSlots, NodesWeighSlots, main_node_result, main_node_visits, node_weight, or_placeholder_node, placeholder_node_visits}
use Rattle.node_compile.specs.declared.compiled.Compiled.{Compiled}

-- ---- the nodes of a fact that is there

pub main_node : (d : Tree) (c : Compiled) → IsCompiled d c → (n : ℕ) (f : Fact) → fact_at d.facts n ≡ Some f → IsNodeOf d n (body f) (main_of c n)
main_node d c is n f e = subst (λ (o : Option Fact). IsNodeOf d n (option_and_then body o) (main_of c n)) e (is.main n)

pub placeholder_node : (d : Tree) (c : Compiled) → IsCompiled d c → (n : ℕ) (f : Fact) → fact_at d.facts n ≡ Some f → IsNodeOf d n f.placeholder (placeholder_of c n)
placeholder_node d c is n f e = subst (λ (o : Option Fact). IsNodeOf d n (option_and_then (λ (g : Fact). g.placeholder) o) (placeholder_of c n)) e (is.placeholder n)

-- ---- results

by_main : (d : Tree) (a : Answered) (results : Results) (s : Slot) (stated : Stated) (o : Option Source) (n : Option NodeTree) → IsNodeOf d s.fact o n → main_result d a results s stated o ≡ main_node_result a results s stated n
by_main d a results s stated None None h = refl
by_main d a results s stated None (Some node) h = absurd h
by_main d a results s stated (Some t) None h = absurd h
by_main d a results s stated (Some t) (Some node) h = ap (or_override (value_of Override a s)) (sym (h.result results s.member 0))

by_placeholder : (d : Tree) (results : Results) (s : Slot) (o : Option Source) (n : Option NodeTree) → IsNodeOf d s.fact o n → (r : Res) → or_placeholder d results s o r ≡ or_placeholder_node results s n r
by_placeholder d results s None None h r = refl
by_placeholder d results s None (Some node) h r = absurd h
by_placeholder d results s (Some t) None h r = absurd h
by_placeholder d results s (Some t) (Some node) h Incomplete = ap down (sym (h.result results s.member 0))
by_placeholder d results s (Some t) (Some node) h (Complete v) = refl
by_placeholder d results s (Some t) (Some node) h (Placeholder v) = refl
by_placeholder d results s (Some t) (Some node) h (Fault fault) = refl

pub nodes_give_slots : NodesGiveSlots
nodes_give_slots d c is a results s f e =
    ap (or_placeholder d results s f.placeholder) (by_main d a results s f.stated (body f) (main_of c s.fact) (main_node d c is s.fact f e))
    ∙ by_placeholder d results s f.placeholder (placeholder_of c s.fact) (placeholder_node d c is s.fact f e) (main_node_result a results s f.stated (main_of c s.fact))

-- ---- weights

weighs : (d : Accepted) (a : Answered) (s : Slot) (o : Option Source) (n : Option NodeTree) → IsNodeOf d.tree s.fact o n → expression_weight d a s o ≡ node_weight (plain d a) s n
weighs d a s None None h = refl
weighs d a s None (Some node) h = absurd h
weighs d a s (Some t) None h = absurd h
weighs d a s (Some t) (Some node) h = sym (h.weight (plain d a) s.member 0)

both_weigh : (d : Accepted) (a : Answered) (s : Slot) (main placeholder : Option NodeTree) (o : Option Fact)
    → IsNodeOf d.tree s.fact (option_and_then body o) main → IsNodeOf d.tree s.fact (option_and_then (λ (f : Fact). f.placeholder) o) placeholder
    → at_fact o 0 (λ (f : Fact). expression_weight d a s (body f) + expression_weight d a s f.placeholder) ≡ node_weight (plain d a) s main + node_weight (plain d a) s placeholder
both_weigh d a s main placeholder None h k =
    ap (λ (n : ℕ). n + 0) (weighs d a s None main h) ∙ ap (λ (n : ℕ). node_weight (plain d a) s main + n) (weighs d a s None placeholder k)
both_weigh d a s main placeholder (Some f) h k =
    ap (λ (n : ℕ). n + expression_weight d a s f.placeholder) (weighs d a s (body f) main h)
    ∙ ap (λ (n : ℕ). node_weight (plain d a) s main + n) (weighs d a s f.placeholder placeholder k)

pub nodes_weigh_slots : NodesWeighSlots
nodes_weigh_slots d c is a s = both_weigh d a s (main_of c s.fact) (placeholder_of c s.fact) (fact_at d.tree.facts s.fact) (is.main s.fact) (is.placeholder s.fact)

-- ---- visits

main_visits : (d : Tree) (a : Answered) (results : Results) (s : Slot) (o : Option Source) (n : Option NodeTree) → IsNodeOf d s.fact o n → body_visits d a results s o ≡ main_node_visits a results s n
main_visits d a results s None None h = refl
main_visits d a results s None (Some node) h = absurd h
main_visits d a results s (Some t) None h = absurd h
main_visits d a results s (Some t) (Some node) h = ap (unless_given (value_of Override a s)) (sym (h.visits results s.member 0))

stand_in_visits : (d : Tree) (results : Results) (s : Slot) (o : Option Source) (n : Option NodeTree) → IsNodeOf d s.fact o n → (r : Res) → placeholder_visits d results s o r ≡ placeholder_node_visits results s n r
stand_in_visits d results s None None h r = refl
stand_in_visits d results s None (Some node) h r = absurd h
stand_in_visits d results s (Some t) None h r = absurd h
stand_in_visits d results s (Some t) (Some node) h r = ap (λ n. if is_incomplete r then n else 0) (sym (h.visits results s.member 0))

pub nodes_visit_slots : NodesVisitSlots
nodes_visit_slots d c is a results s f e =
    let main = main_node d c is s.fact f e in
    let placeholder = placeholder_node d c is s.fact f e in
    ap (λ n. n + placeholder_visits d results s f.placeholder (main_result d a results s f.stated (body f))) (main_visits d a results s (body f) (main_of c s.fact) main)
    ∙ ap (λ n. main_node_visits a results s (main_of c s.fact) + n)
    (ap (placeholder_visits d results s f.placeholder) (by_main d a results s f.stated (body f) (main_of c s.fact) main)
    ∙ stand_in_visits d results s f.placeholder (placeholder_of c s.fact) placeholder (main_node_result a results s f.stated (main_of c s.fact)))

-- ---- types

meets : (checks : List (List ℕ)) (d : Accepted) → IsAccepted checks d → (a : Answered) → AnswersFit d.tree a → (fact : ℕ) (at : NodePosition) (o : Option Source) (n : Option NodeTree) → IsNodeOf d.tree fact o n → MeetsTypes d a at n
meets checks d good a fit fact at o None h = tt
meets checks d good a fit fact at None (Some node) h = absurd h
meets checks d good a fit fact at (Some t) (Some node) h = h.typed (domains d.tree a) (plain d a) at (plain_typed checks d good a fit)

pub nodes_meet_types : NodesMeetTypes
nodes_meet_types checks d good c is a fit fact at = (
  meets checks d good a fit fact at (option_and_then body (fact_at d.tree.facts fact)) (main_of c fact) (is.main fact),
  meets checks d good a fit fact at (option_and_then (λ (f : Fact). f.placeholder) (fact_at d.tree.facts fact)) (placeholder_of c fact) (is.placeholder fact),
)
