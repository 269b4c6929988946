-- How many steps the lines of several parties take, one behind another.
use Rattle.std.proofs.Common.{◌≡◌, ℕ, ◌+◌, ◌≤◌, List, [], ◌∷◌, ◌++◌, ap, arith}
use Rattle.script_lines.specs.Lines.{ScriptLine}
use Rattle.answers.specs.Answered.{Answered}
use Rattle.dict_meaning.specs.Accepted.{Accepted}
use Rattle.graph_session.specs.Rules.{Rules}
use Rattle.graph_session.specs.SessionView.{SessionState, session_state}
use Rattle.shared_desk.specs.Desk.{Desk}
use Rattle.shared_desk.specs.DeskView.{DeskView, StandsFor}
use Rattle.desk_lines.specs.DeskStepping.{DeskState, desk_line_step, desk_open, desk_state_after}
use Rattle.desk_lines.specs.DeskSteps.{steps_of_desk_lines, steps_of_party_line}

module _ (most : Accepted → Answered → Answered → ℕ) where
  pub desk_steps-append : (r : Rules) (state : DeskState) (xs ys : List ScriptLine)
      → steps_of_desk_lines most r state (xs ++ ys) ≡ steps_of_desk_lines most r state xs + steps_of_desk_lines most r (desk_state_after r state xs) ys
  desk_steps-append r state [] ys = omega arith
  desk_steps-append r state (x ∷ xs) ys =
      let rest = desk_steps-append r (desk_line_step r state x).state xs ys in
      omega (arith, rest)

  -- one line, of the desk that what is kept stands for
  pub steps_of_one : (r : Rules) (v : DeskView) (d : Desk) (line : ScriptLine) (steps steps_now : ℕ) → StandsFor v d
      → steps_now ≤ steps + steps_of_party_line most r (session_state v.session) line → steps_now ≤ steps + steps_of_desk_lines most r (desk_open d) (line ∷ [])
  steps_of_one r v d line steps steps_now stands took =
      let same = ap (λ (c : SessionState). steps_of_party_line most r c line) stands.session_state in
      omega (arith, took, same)
