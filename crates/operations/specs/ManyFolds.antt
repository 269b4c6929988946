-- A node with many operands, one operand after another, as loops take them.
use Rattle.std.specs.Prelude.{◌≡◌, ℕ, ◌+◌, pos, Bool, true, false, List, [], fold, Option, Some, None, Result, Ok, if◌then◌else◌}
use Rattle.std.specs.Ordering.{is_gt, is_lt}
use Rattle.fact_values.specs.declared.fault.ValueFault.{ValueFault}
use Rattle.fact_values.specs.declared.value.Value.{Value}
use Rattle.fact_values.specs.declared.value.Value.TheVariants.{Int}
use Rattle.fact_values.specs.Values.{order_of}
use Rattle.dict_source.specs.declared.operators.ManyOp.{ManyOp}
use Rattle.dict_source.specs.declared.operators.ManyOp.TheVariants as many_op
use Rattle.three_state.specs.Folds.{junction_next, verdict_next}
use Rattle.three_state.specs.Results.{after_verdict, all_of, any_of, verdict_of}
use Rattle.three_state.specs.declared.res.Res.{Res}
use Rattle.three_state.specs.declared.res.Res.TheVariants.{Complete, Placeholder}
use Rattle.operations.specs.Sums.{added, calls_in, difference_of_seen, subtracted, sum_of_seen}
use Rattle.operations.specs.declared.gathered.Extreme.{Extreme}
use Rattle.operations.specs.declared.gathered.Extreme.TheVariants as extreme
use Rattle.operations.specs.declared.gathered.Gathered.{Gathered}
use Rattle.operations.specs.declared.gathered.Gathered.TheVariants.{Added, Subtracted, Greatest, Least}
use Rattle.operations.specs.declared.accumulator.Accumulator.{Accumulator}
use Rattle.operations.specs.declared.accumulator.Accumulator.TheVariants.{All, Any, Values}
use Rattle.operations.specs.declared.sum.Summed.TheVariants.{Nothing}

-- ---- the values seen

-- how many numbers were added or taken away
abbrev pub calls_of : Gathered → ℕ
calls_of (Added sum) = calls_in sum
calls_of (Subtracted sum) = calls_in sum
calls_of _ = 0

-- the next value is kept in place of this one; of two that are equal, the earlier one is kept
abbrev pub is_beyond : Extreme → Value → Value → Bool
is_beyond extreme.Greatest kept v = is_lt (order_of kept v)
is_beyond extreme.Least kept v = is_gt (order_of kept v)

abbrev pub extreme_next : Extreme → Option Value → Value → Option Value
extreme_next extreme None v = Some v
extreme_next extreme (Some kept) v = Some (if is_beyond extreme kept v then v else kept)

abbrev pub extreme_end : Option Value → Value
extreme_end None = Int (pos 0)
extreme_end (Some v) = v

abbrev pub gathered_next : Gathered → Value → Gathered
gathered_next (Added sum) v = Added (added sum v)
gathered_next (Subtracted sum) v = Subtracted (subtracted sum v)
gathered_next (Greatest v) w = Greatest (extreme_next extreme.Greatest v w)
gathered_next (Least v) w = Least (extreme_next extreme.Least v w)

-- an operand that has no value leaves the values as they were
abbrev pub gathered_after : Gathered → Res → Gathered
gathered_after gathered (Complete v) = gathered_next gathered v
gathered_after gathered (Placeholder v) = gathered_next gathered v
gathered_after gathered _ = gathered

abbrev pub gathered_end : Gathered → Result Value ValueFault
gathered_end (Added sum) = sum_of_seen sum
gathered_end (Subtracted sum) = difference_of_seen sum
gathered_end (Greatest v) = Ok (extreme_end v)
gathered_end (Least v) = Ok (extreme_end v)

-- ---- the operands seen

abbrev pub calls_accumulated : Accumulator → ℕ
calls_accumulated (Values verdict gathered) = calls_of gathered
calls_accumulated _ = 0

unfoldable pub accumulator_start : ManyOp → Accumulator
accumulator_start many_op.All = All (all_of [])
accumulator_start many_op.Any = Any (any_of [])
accumulator_start many_op.Add = Values (verdict_of []) (Added Nothing)
accumulator_start many_op.Subtract = Values (verdict_of []) (Subtracted Nothing)
accumulator_start many_op.GreaterOf = Values (verdict_of []) (Greatest None)
accumulator_start many_op.LesserOf = Values (verdict_of []) (Least None)

unfoldable pub accumulator_next : Accumulator → Res → Accumulator
accumulator_next (All so_far) r = All (junction_next false so_far r)
accumulator_next (Any so_far) r = Any (junction_next true so_far r)
accumulator_next (Values verdict gathered) r = Values (verdict_next verdict r) (gathered_after gathered r)

unfoldable pub accumulator_end : Accumulator → Res
accumulator_end (All so_far) = so_far
accumulator_end (Any so_far) = so_far
accumulator_end (Values verdict gathered) = after_verdict verdict (gathered_end gathered)

-- how many operands were seen, and what is kept of them
pub record ManySeen : Type 0 where
  pub count : ℕ
  pub kept : Accumulator

abbrev pub many_start : ManyOp → ManySeen
many_start op = record { count = 0; kept = accumulator_start op }

abbrev pub saw : ManySeen → Res → ManySeen
saw seen r = record { count = seen.count + 1; kept = accumulator_next seen.kept r }

abbrev pub many_end : ManySeen → Res
many_end seen = accumulator_end seen.kept

-- the result, with the operands that are left
abbrev pub many_from : ManySeen → List Res → Res
many_from seen rs = many_end (fold saw seen rs)

-- these operands of a node were seen, in their order
abbrev pub AreSeen : ManyOp → List Res → ManySeen → Type 0
AreSeen op rs seen = seen ≡ fold saw (many_start op) rs
