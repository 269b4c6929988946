-- A node with many operands, one operand after another, gives what it gives of the whole list.
use Rattle.std.proofs.Common.{◌≡◌, ℕ, ◌+◌, true, false, List, [], ◌∷◌, Some, None, Result, Ok, refl, ap₂, ◌∙◌}
use Rattle.fact_values.specs.declared.fault.ValueFault.{ValueFault}
use Rattle.fact_values.specs.declared.value.Value.{Value}
use Rattle.dict_source.specs.declared.operators.ManyOp.{ManyOp}
use Rattle.dict_source.specs.declared.operators.ManyOp.TheVariants as many_op
use Rattle.three_state.specs.Folds.{junction_next, junction_on, verdict_next, verdict_on}
use Rattle.three_state.specs.Results.{after_verdict, values_of, verdict_of}
use Rattle.three_state.specs.declared.res.Res.{Res}
use Rattle.three_state.specs.declared.res.Res.TheVariants.{Complete, Placeholder}
use Rattle.three_state.specs.declared.strict.Verdict.{Verdict}
use Rattle.three_state.specs.declared.strict.Verdict.TheVariants as verdict
use Rattle.three_state.proofs.FoldLaws.{junction_on-start, verdict_on-start}
use Rattle.evaluation.specs.Operations.{greater, greatest, least, lesser, many_value}
use Rattle.evaluation.specs.Over.{many_of}
use Rattle.operations.specs.declared.gathered.Gathered.{Gathered}
use Rattle.operations.specs.declared.gathered.Gathered.TheVariants.{Added, Subtracted, Greatest, Least}
use Rattle.operations.specs.declared.accumulator.Accumulator.TheVariants.{All, Any, Values}
use Rattle.operations.specs.declared.sum.Summed.{Summed}
use Rattle.operations.specs.declared.sum.Summed.TheVariants.{Nothing}
use Rattle.operations.specs.ManyFolds.{accumulator_end, accumulator_next, accumulator_start, gathered_end, gathered_next, many_from, many_start}
use Rattle.operations.specs.Sums.{added, difference_with, subtracted, sum_with}
use Rattle.operations.proofs.SumLaws.{difference_with-start, sum_with-start}

-- ---- the values

-- what the operation gives, with the values that are left
abbrev gathered_from : Gathered → List Value → Result Value ValueFault
gathered_from gathered [] = gathered_end gathered
gathered_from gathered (v ∷ vs) = gathered_from (gathered_next gathered v) vs

gathered_from-added : (sum : Summed) (vs : List Value) → gathered_from (Added sum) vs ≡ sum_with sum vs
gathered_from-added sum [] = refl
gathered_from-added sum (v ∷ vs) = gathered_from-added (added sum v) vs

gathered_from-subtracted : (sum : Summed) (vs : List Value) → gathered_from (Subtracted sum) vs ≡ difference_with sum vs
gathered_from-subtracted sum [] = refl
gathered_from-subtracted sum (v ∷ vs) = gathered_from-subtracted (subtracted sum v) vs

gathered_from-greatest : (v : Value) (vs : List Value) → gathered_from (Greatest (Some v)) vs ≡ Ok (greatest v vs)
gathered_from-greatest v [] = refl
gathered_from-greatest v (w ∷ ws) = gathered_from-greatest (greater v w) ws

gathered_from-least : (v : Value) (vs : List Value) → gathered_from (Least (Some v)) vs ≡ Ok (least v vs)
gathered_from-least v [] = refl
gathered_from-least v (w ∷ ws) = gathered_from-least (lesser v w) ws

greatest-start : (vs : List Value) → gathered_from (Greatest None) vs ≡ many_value many_op.GreaterOf vs
greatest-start [] = refl
greatest-start (v ∷ vs) = gathered_from-greatest v vs

least-start : (vs : List Value) → gathered_from (Least None) vs ≡ many_value many_op.LesserOf vs
least-start [] = refl
least-start (v ∷ vs) = gathered_from-least v vs

-- ---- the operands

-- one that is complete leaves the verdict as it was
pub complete_leaves_verdict : (so_far : Verdict) (v : Value) → verdict_next so_far (Complete v) ≡ so_far
complete_leaves_verdict (verdict.Go complete) v = refl
complete_leaves_verdict verdict.Incomplete v = refl
complete_leaves_verdict (verdict.Fault fault) v = refl

many_from-all : (count : ℕ) (so_far : Res) (rs : List Res) → many_from (record { count = count; kept = All so_far }) rs ≡ junction_on false so_far rs
unfolding accumulator_next accumulator_end
many_from-all count so_far [] = refl
many_from-all count so_far (r ∷ rs) = many_from-all (count + 1) (junction_next false so_far r) rs

many_from-any : (count : ℕ) (so_far : Res) (rs : List Res) → many_from (record { count = count; kept = Any so_far }) rs ≡ junction_on true so_far rs
unfolding accumulator_next accumulator_end
many_from-any count so_far [] = refl
many_from-any count so_far (r ∷ rs) = many_from-any (count + 1) (junction_next true so_far r) rs

many_from-values : (count : ℕ) (so_far : Verdict) (gathered : Gathered) (rs : List Res)
    → many_from (record { count = count; kept = Values so_far gathered }) rs ≡ after_verdict (verdict_on so_far rs) (gathered_from gathered (values_of rs))
unfolding accumulator_next accumulator_end
many_from-values count so_far gathered [] = refl
many_from-values count so_far gathered (Complete v ∷ rs) = many_from-values (count + 1) _ (gathered_next gathered v) rs
many_from-values count so_far gathered (Placeholder v ∷ rs) = many_from-values (count + 1) _ (gathered_next gathered v) rs
many_from-values count so_far gathered (_ ∷ rs) = many_from-values (count + 1) _ gathered rs

-- from the values alone
strict-start : (gathered : Gathered) (rs : List Res) (done : Result Value ValueFault) → gathered_from gathered (values_of rs) ≡ done
    → many_from (record { count = 0; kept = Values (verdict_of []) gathered }) rs ≡ after_verdict (verdict_of rs) done
strict-start gathered rs done e = many_from-values 0 (verdict_of []) gathered rs ∙ ap₂ after_verdict (verdict_on-start rs) e

pub many_from-start : (op : ManyOp) (rs : List Res) → many_from (many_start op) rs ≡ many_of op rs
unfolding accumulator_start
many_from-start many_op.All rs = many_from-all 0 _ rs ∙ junction_on-start false rs
many_from-start many_op.Any rs = many_from-any 0 _ rs ∙ junction_on-start true rs
many_from-start many_op.Add rs = strict-start (Added Nothing) rs _ (gathered_from-added Nothing (values_of rs) ∙ sum_with-start (values_of rs))
many_from-start many_op.Subtract rs = strict-start (Subtracted Nothing) rs _ (gathered_from-subtracted Nothing (values_of rs) ∙ difference_with-start (values_of rs))
many_from-start many_op.GreaterOf rs = strict-start (Greatest None) rs _ (greatest-start (values_of rs))
many_from-start many_op.LesserOf rs = strict-start (Least None) rs _ (least-start (values_of rs))
