-- The condition of a Filter or a Find, at the members of its collection.
use Rattle.std.specs.Prelude.{ℕ}
use Rattle.three_state.specs.declared.res.Res.{Res}
use Rattle.evaluation.specs.Over.{over, weight}
use Rattle.evaluation.specs.Results.{Results}
use Rattle.node_eval.specs.Memory.{TakesMemory}
use Rattle.node_eval.specs.Dependencies.{entered, node_env}
use Rattle.node_eval.specs.View.{Compiled}
use Rattle.evaluation.specs.Visits.{visits}
use Rattle.node_eval.specs.declared.node_position.NodePosition.{NodePosition}

-- what it gives at a member, how many nodes are visited there and at most, and whether that takes memory
abbrev pub condition_at : Results → NodePosition → Compiled → ℕ → Res
condition_at results at t m = over (node_env results) (entered at m) t

abbrev pub visits_at : Results → NodePosition → Compiled → ℕ → ℕ
visits_at results at t m = visits (node_env results) (entered at m) t

abbrev pub work_at : Results → NodePosition → Compiled → ℕ → ℕ
work_at results at t m = weight (node_env results) (entered at m) t

abbrev pub TakesAt : Results → NodePosition → Compiled → ℕ → Type 0
TakesAt results at t m = TakesMemory (node_env results) (entered at m) t
