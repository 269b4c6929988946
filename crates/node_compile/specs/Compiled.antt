-- What compiled facts are: nodes that give what the facts' expressions give.
use Rattle.std.specs.Prelude.{◌≡◌, ℕ, Option, Some, None, option_and_then, option_map}
use Rattle.fact_values.specs.declared.slot.Slot.{Slot}
use Rattle.dict_source.specs.Dictionary.{Dictionary as Tree}
use Rattle.dict_source.specs.Facts.{Fact}
use Rattle.dict_source.specs.Finding.{fact_at}
use Rattle.dict_source.specs.Tree.{Source}
use Rattle.node_types.specs.StatedTypes.{type_at}
use Rattle.dict_types.specs.Typed.{numbered}
use Rattle.evaluation.specs.Over.{over, weight}
use Rattle.evaluation.specs.Typed.{Domains}
use Rattle.evaluation.specs.Visits.{visits}
use Rattle.dict_meaning.specs.Plain.{body}
use Rattle.dict_meaning.specs.Dependencies.{EvalPosition, source_env}
use Rattle.evaluation.specs.Results.{Results}
use Rattle.node_eval.specs.NodeTypes.{FactTypes, IsTyped, IsTypedCell}
use Rattle.node_eval.specs.Dependencies.{node_env}
use Rattle.node_eval.specs.View.{Compiled as NodeTree, view}
use Rattle.node_eval.specs.declared.node_position.NodePosition.{NodePosition}
use Rattle.node_compile.specs.declared.compiled.Compiled.{Compiled}
use Rattle.node_compile.specs.declared.fact.FactNodes.{FactNodes}

-- ---- the nodes of a fact, by its number

-- of its body: none of a Writable fact
abbrev pub main_of : Compiled → ℕ → Option NodeTree
main_of c fact = option_and_then (λ (f : FactNodes). option_map view f.main) (numbered c.facts.items fact)

abbrev pub placeholder_of : Compiled → ℕ → Option NodeTree
placeholder_of c fact = option_and_then (λ (f : FactNodes). option_map view f.placeholder) (numbered c.facts.items fact)

-- ---- what a node stands for

-- outside of conditions, at a member of the slot; no expression there reads what is under a condition
abbrev pub node_place : ℕ → ℕ → NodePosition
node_place own inner = record { own = own; inner = inner }

abbrev pub place : ℕ → ℕ → EvalPosition
place own inner = record { base = 0; own = own; inner = inner }

-- each cell has a value of its fact's type, or none
abbrev pub HasTypedCells : Domains → FactTypes → Results → Type 0
HasTypedCells dom facts results = (s : Slot) → IsTypedCell dom facts results s

-- The node gives the result of an expression of the fact over any cells, weighs as much, and its evaluation visits as many nodes.
-- Over cells of the right types it meets the condition of evaluation.
pub record StandsFor (d : Tree) (fact : ℕ) (t : Source) (node : NodeTree) : Type 0 where
  pub result : (results : Results) (own inner : ℕ) → over (node_env results) (node_place own inner) node ≡ over (source_env d results fact) (place own inner) t
  pub weight : (results : Results) (own inner : ℕ) → weight (node_env results) (node_place own inner) node ≡ weight (source_env d results fact) (place own inner) t
  pub visits : (results : Results) (own inner : ℕ) → visits (node_env results) (node_place own inner) node ≡ visits (source_env d results fact) (place own inner) t
  pub typed : (dom : Domains) (results : Results) (at : NodePosition) → HasTypedCells dom (type_at d) results → IsTyped dom (type_at d) results at node

-- there is a node exactly where there is an expression, for which it stands
abbrev pub IsNodeOf : Tree → ℕ → Option Source → Option NodeTree → Type 0
IsNodeOf d fact None None = Unit {0}
IsNodeOf d fact (Some t) (Some node) = StandsFor d fact t node
IsNodeOf d fact None (Some node) = ⊥
IsNodeOf d fact (Some t) None = ⊥

-- these are the nodes of the dictionary's facts; where no fact has a number, there are none
pub record IsCompiled (d : Tree) (c : Compiled) : Type 0 where
  pub main : (fact : ℕ) → IsNodeOf d fact (option_and_then body (fact_at d.facts fact)) (main_of c fact)
  pub placeholder : (fact : ℕ) → IsNodeOf d fact (option_and_then (λ (f : Fact). f.placeholder) (fact_at d.facts fact)) (placeholder_of c fact)
