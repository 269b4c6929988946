-- How many steps lines take, one behind another.
use Rattle.std.proofs.Common.{◌≡◌, ℕ, ◌+◌, List, [], ◌∷◌, ◌++◌, arith}
use Rattle.script_lines.specs.Lines.{ScriptLine}
use Rattle.answers.specs.Answered.{Answered}
use Rattle.dict_meaning.specs.Accepted.{Accepted}
use Rattle.graph_session.specs.Rules.{Rules}
use Rattle.session_lines.specs.Stepping.{State, state_after, step}
use Rattle.session_lines.specs.Steps.{steps_of_lines}

pub steps-append : (most : Accepted → Answered → Answered → ℕ) (r : Rules) (state : State) (xs ys : List ScriptLine)
    → steps_of_lines most r state (xs ++ ys) ≡ steps_of_lines most r state xs + steps_of_lines most r (state_after r state xs) ys
steps-append most r state [] ys = omega arith
steps-append most r state (x ∷ xs) ys =
    let rest = steps-append most r (step r state x).state xs ys in
    omega (arith, rest)
