-- Results by slot.
use Rattle.std.specs.Prelude.{ℕ, Option, Some, None, unwrap_or}
use Rattle.fact_values.specs.declared.slot.Slot.{Slot}
use Rattle.three_state.specs.declared.res.Res.{Res}
use Rattle.three_state.specs.declared.res.Res.TheVariants.{Incomplete}

-- the result of each slot, and none of one that doesn't stand
abbrev pub Results : Type 0
Results = Slot → Option Res

abbrev pub slot : ℕ → ℕ → Slot
slot fact member = record { fact = fact; member = member }

-- a missing slot counts as incomplete
abbrev pub result_at : Results → Option ℕ → ℕ → Res
result_at results None member = Incomplete
result_at results (Some fact) member = unwrap_or (results (slot fact member)) Incomplete
