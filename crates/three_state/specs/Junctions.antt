-- What the fold behind All and Any keeps of the operands seen.
use Rattle.std.specs.Prelude.{Bool, false, not, ◌||◌, if◌then◌else◌, Option, Some, None}
use Rattle.fact_values.specs.declared.fault.ValueFault.{ValueFault}
use Rattle.fact_values.specs.declared.value.Value.TheVariants.{Boolean}
use Rattle.three_state.specs.declared.junction.Junction.{Junction}
use Rattle.three_state.specs.declared.res.Res.{Res}
use Rattle.three_state.specs.declared.res.Res.TheVariants.{Complete, Placeholder, Incomplete}
use Rattle.three_state.specs.Results.{fault_else, fault_or, is_complete_at, is_incomplete, is_placeholder, is_placeholder_at}

abbrev pub nothing_seen : Junction
nothing_seen = record {
  decided = false;
  incomplete = false;
  fault = None;
  decided_by_placeholder = false;
  placeholder = false;
}

-- the fault that was first
abbrev pub fault_then : Option ValueFault → Option ValueFault → Option ValueFault
fault_then (Some fault) next = Some fault
fault_then None next = next

abbrev pub with_operand : Bool → Junction → Res → Junction
with_operand decider j r = record {
  decided = j.decided || is_complete_at decider r;
  incomplete = j.incomplete || is_incomplete r;
  fault = fault_then j.fault (fault_or r None);
  decided_by_placeholder = j.decided_by_placeholder || is_placeholder_at decider r;
  placeholder = j.placeholder || is_placeholder r;
}

-- the first rule that fits
abbrev pub end_of : Bool → Junction → Res
end_of decider j =
    if j.decided then Complete (Boolean decider)
    else if j.incomplete then Incomplete
    else fault_else j.fault
    (if j.decided_by_placeholder then Placeholder (Boolean decider)
    else if j.placeholder then Placeholder (Boolean (not decider))
    else Complete (Boolean (not decider)))
