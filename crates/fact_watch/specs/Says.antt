-- What a watch's relation says of a result and the one after it.
use Rattle.std.specs.Prelude.{ℕ, ◌≤◌, Bool, true, false, not, ◌&&◌, ◌==◌, int_lt, if◌then◌else◌, Option, Some}
use Rattle.fact_values.specs.declared.value.Value.{Value}
use Rattle.fact_values.specs.declared.value.Value.TheVariants.{Int, Dollar}
use Rattle.three_state.specs.declared.res.Res.{Res}
use Rattle.three_state.specs.declared.res.Res.TheVariants.{Complete, Placeholder, Incomplete, Fault}
use Rattle.three_state.specs.Equality.{res_same}

abbrev pub is_complete : Res → Bool
is_complete (Complete v) = true
is_complete (Placeholder v) = false
is_complete Incomplete = false
is_complete (Fault f) = false

-- they differ, in kind or value
abbrev pub changed : Res → Res → Bool
changed old new = not (res_same old new)

-- the result wasn't complete, and is now
abbrev pub completed : Res → Res → Bool
completed old new = not (is_complete old) && is_complete new

-- the result was complete, and isn't any more
abbrev pub lost : Res → Res → Bool
lost old new = is_complete old && not (is_complete new)

-- both are whole numbers or both amounts, and the second is greater
abbrev pub is_greater : Value → Value → Bool
is_greater (Int m) (Int n) = int_lt m n
is_greater (Dollar m) (Dollar n) = int_lt m n
is_greater _ _ = false

-- both are complete, and the value is a greater number
abbrev pub raised : Res → Res → Bool
raised (Complete v) (Complete w) = is_greater v w
raised _ _ = false

-- of the codes, 1 to 4
abbrev pub watch_says : ℕ → Res → Res → Bool
watch_says code old new =
    if code == 1 then changed old new
    else if code == 2 then completed old new
    else if code == 3 then lost old new
    else if code == 4 then raised old new
    else false

abbrev pub IsCode : ℕ → Type 0
IsCode code = (1 ≤ code) × (code ≤ 4)

-- of a slot: no where it didn't stand or doesn't stand
abbrev pub slot_says : ℕ → Option Res → Option Res → Bool
slot_says code (Some old) (Some new) = watch_says code old new
slot_says code _ _ = false
