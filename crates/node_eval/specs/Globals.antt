-- The operands of a node that are facts which stand once.
use Rattle.std.specs.Prelude.{ℕ, suc, ℤ, List, [], ◌∷◌, Option, Some, None, is_some, if◌then◌else◌}
use Rattle.fact_values.specs.declared.value.Value.TheVariants.{Dollar, Int}
use Rattle.three_state.specs.Results.{ValueHoldsMemory}
use Rattle.three_state.specs.declared.res.Res.{Res}
use Rattle.three_state.specs.declared.res.Res.TheVariants.{Complete}
use Rattle.evaluation.specs.Results.{Results, result_at}
use Rattle.node_eval.specs.Memory.{SomeOf}

-- what is read of a fact that stands once
abbrev pub global_result : Results → ℕ → Res
global_result results fact = result_at results (Some fact) 0

-- one of these facts has a value that holds memory
abbrev pub SomeHoldsMemory : Results → List ℕ → Type 0
SomeHoldsMemory results facts = SomeOf (λ fact. ValueHoldsMemory (global_result results fact)) facts

-- a complete amount of money, in cents
abbrev pub amount_of : Res → Option ℤ
amount_of (Complete (Dollar cents)) = Some cents
amount_of _ = None

-- a complete whole number
abbrev pub whole_of : Res → Option ℤ
whole_of (Complete (Int n)) = Some n
whole_of _ = None

-- how many results at the front are such numbers
abbrev pub leading : (Res → Option ℤ) → List Res → ℕ
leading number [] = 0
leading number (r ∷ rs) = if is_some (number r) then suc (leading number rs) else 0
