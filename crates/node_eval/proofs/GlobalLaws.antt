-- Operands that are facts which stand once, as a list of trees.
use Rattle.std.proofs.Common.{◌≡◌, ℕ, suc, ◌+◌, List, [], ◌∷◌, length, map, refl, ap, ◌∙◌, arith, inl, inr}
use Rattle.evaluation.specs.Over.{over_all, weight_of_all}
use Rattle.evaluation.specs.Results.{Results}
use Rattle.evaluation.specs.Visits.{visits_of_all}
use Rattle.node_eval.specs.Dependencies.{node_env}
use Rattle.node_eval.specs.Globals.{SomeHoldsMemory, global_result}
use Rattle.node_eval.specs.Memory.{TakesInAll}
use Rattle.node_eval.specs.View.{globals_view}
use Rattle.node_eval.specs.declared.node_position.NodePosition.{NodePosition}

pub globals_give : (results : Results) (at : NodePosition) (facts : List ℕ) → over_all (node_env results) at (globals_view facts) ≡ map (global_result results) facts
globals_give results at [] = refl
globals_give results at (fact ∷ facts) = ap (λ rs. global_result results fact ∷ rs) (globals_give results at facts)

one_and : (n : ℕ) → 1 + n ≡ suc n
one_and n = omega arith

pub globals_visit : (results : Results) (at : NodePosition) (facts : List ℕ) → visits_of_all (node_env results) at (globals_view facts) ≡ length facts
globals_visit results at [] = refl
globals_visit results at (fact ∷ facts) = ap (λ n. 1 + n) (globals_visit results at facts) ∙ one_and (length facts)

pub globals_weigh : (results : Results) (at : NodePosition) (facts : List ℕ) → weight_of_all (node_env results) at (globals_view facts) ≡ length facts
globals_weigh results at [] = refl
globals_weigh results at (fact ∷ facts) = ap (λ n. 1 + n) (globals_weigh results at facts) ∙ one_and (length facts)

pub globals_take : (results : Results) (at : NodePosition) (facts : List ℕ) → SomeHoldsMemory results facts → TakesInAll (node_env results) at (globals_view facts)
globals_take results at [] h = h
globals_take results at (fact ∷ facts) (inl h) = inl h
globals_take results at (fact ∷ facts) (inr h) = inr (globals_take results at facts h)
