-- Laws of the nodes of whole facts.
use Rattle.std.specs.Prelude.{◌≡◌, ℕ, ◌+◌, if◌then◌else◌, List, Option, Some, None}
use Rattle.fact_values.specs.declared.slot.Slot.{Slot}
use Rattle.dict_source.specs.Dictionary.{Dictionary as Tree}
use Rattle.dict_source.specs.Facts.{Fact, Stated}
use Rattle.dict_source.specs.Finding.{fact_at}
use Rattle.node_types.specs.StatedTypes.{type_at}
use Rattle.three_state.specs.Results.{down, is_incomplete}
use Rattle.three_state.specs.declared.res.Res.{Res}
use Rattle.three_state.specs.declared.res.Res.TheVariants.{Complete, Placeholder, Incomplete, Fault}
use Rattle.evaluation.specs.Over.{over, weight}
use Rattle.evaluation.specs.Visits.{visits}
use Rattle.answers.specs.Answered.{Answered, value_of}
use Rattle.answers.specs.declared.edit.Side.TheVariants.{Override}
use Rattle.dict_meaning.specs.Accepted.{Accepted, IsAccepted}
use Rattle.dict_meaning.specs.Fits.{AnswersFit, domains}
use Rattle.dict_meaning.specs.Plain.{answer_result, given_value, or_override, plain, slot_result}
use Rattle.dict_meaning.specs.Weights.{slot_weight}
use Rattle.visit_counts.specs.SlotVisits.{unless_given, visits_over}
use Rattle.evaluation.specs.Results.{Results}
use Rattle.node_eval.specs.NodeTypes.{IsTyped}
use Rattle.node_eval.specs.Dependencies.{node_env}
use Rattle.node_eval.specs.View.{Compiled as NodeTree}
use Rattle.node_eval.specs.declared.node_position.NodePosition.{NodePosition}
use Rattle.node_compile.specs.Compiled.{IsCompiled, main_of, node_place, placeholder_of}
use Rattle.node_compile.specs.declared.compiled.Compiled.{Compiled}

-- ---- the result of a slot

-- of a node of the slot's fact
abbrev pub node_result : Results → Slot → NodeTree → Res
node_result results s node = over (node_env results) (node_place s.member 0) node

-- what is given to a Writable slot; else the override, or the result of the main node
abbrev pub main_node_result : Answered → Results → Slot → Stated → Option NodeTree → Res
main_node_result a results s stated None = answer_result (given_value stated a s)
main_node_result a results s stated (Some node) = or_override (value_of Override a s) (node_result results s node)

-- an incomplete result gives way to that of the placeholder's node
abbrev pub or_placeholder_node : Results → Slot → Option NodeTree → Res → Res
or_placeholder_node results s None r = r
or_placeholder_node results s (Some node) (Complete v) = Complete v
or_placeholder_node results s (Some node) (Placeholder v) = Placeholder v
or_placeholder_node results s (Some node) Incomplete = down (node_result results s node)
or_placeholder_node results s (Some node) (Fault fault) = Fault fault

-- the main node's, or the override, the answer or the placeholder's
abbrev pub result_by_nodes : Compiled → Answered → Results → Slot → Stated → Res
result_by_nodes c a results s stated = or_placeholder_node results s (placeholder_of c s.fact) (main_node_result a results s stated (main_of c s.fact))

-- ---- its weight

abbrev pub node_weight : Results → Slot → Option NodeTree → ℕ
node_weight results s None = 0
node_weight results s (Some node) = weight (node_env results) (node_place s.member 0) node

abbrev pub weight_by_nodes : Compiled → Results → Slot → ℕ
weight_by_nodes c results s = node_weight results s (main_of c s.fact) + node_weight results s (placeholder_of c s.fact)

-- ---- the nodes that its evaluation visits

abbrev pub node_visits : Results → Slot → NodeTree → ℕ
node_visits results s node = visits (node_env results) (node_place s.member 0) node

-- of the main node: none where there is no such node, or where an override stands in its place
abbrev pub main_node_visits : Answered → Results → Slot → Option NodeTree → ℕ
main_node_visits a results s None = 0
main_node_visits a results s (Some node) = unless_given (value_of Override a s) (node_visits results s node)

-- of the placeholder's node, which is evaluated where the main result is incomplete
abbrev pub placeholder_node_visits : Results → Slot → Option NodeTree → Res → ℕ
placeholder_node_visits results s None r = 0
placeholder_node_visits results s (Some node) r = if is_incomplete r then node_visits results s node else 0

abbrev pub visits_by_nodes : Compiled → Answered → Results → Slot → Stated → ℕ
visits_by_nodes c a results s stated =
    main_node_visits a results s (main_of c s.fact) + placeholder_node_visits results s (placeholder_of c s.fact) (main_node_result a results s stated (main_of c s.fact))

-- ---- laws

-- over any map, a slot's result is that of its fact's nodes
abbrev pub NodesGiveSlots : Type 0
NodesGiveSlots =
    (d : Tree) (c : Compiled) → IsCompiled d c → (a : Answered) (results : Results) (s : Slot) (f : Fact) → fact_at d.facts s.fact ≡ Some f
    → slot_result d a results s f ≡ result_by_nodes c a results s f.stated

-- with the results of plain evaluation the nodes weigh what the slot weighs
abbrev pub NodesWeighSlots : Type 0
NodesWeighSlots =
    (d : Accepted) (c : Compiled) → IsCompiled d.tree c → (a : Answered) (s : Slot) → slot_weight d a s ≡ weight_by_nodes c (plain d a) s

-- over any map, the evaluation of a slot visits as many of the nodes
abbrev pub NodesVisitSlots : Type 0
NodesVisitSlots =
    (d : Tree) (c : Compiled) → IsCompiled d c → (a : Answered) (results : Results) (s : Slot) (f : Fact) → fact_at d.facts s.fact ≡ Some f
    → visits_over d a results s f ≡ visits_by_nodes c a results s f.stated

-- the condition of evaluation, where there is a node
abbrev pub MeetsTypes : Accepted → Answered → NodePosition → Option NodeTree → Type 0
MeetsTypes d a at None = Unit {0}
MeetsTypes d a at (Some node) = IsTyped (domains d.tree a) (type_at d.tree) (plain d a) at node

-- over the results of plain evaluation a node meets the condition of evaluation, whatever answers stand
abbrev pub NodesMeetTypes : Type 0
NodesMeetTypes =
    (checks : List (List ℕ)) (d : Accepted) → IsAccepted checks d → (c : Compiled) → IsCompiled d.tree c → (a : Answered) → AnswersFit d.tree a
    → (fact : ℕ) (at : NodePosition) → MeetsTypes d a at (main_of c fact) × MeetsTypes d a at (placeholder_of c fact)
