-- CollectionSum and Count, one field after another, give what they give of the whole list.
use Rattle.std.proofs.Common.{◌≡◌, ℕ, ◌+◌, ℤ, pos, ◌+ℤ◌, Bool, true, false, if◌then◌else◌, List, [], ◌∷◌, map, count_by, Result, Ok, refl, sym, ap, ap₂, ◌∙◌, arith}
use Rattle.std.proofs.lemmas.Int.{ints}
use Rattle.std.proofs.lemmas.List.Sums.{sum_by-cons}
use Rattle.fact_values.specs.declared.fact_type.FactType.{FactType}
use Rattle.fact_values.specs.declared.fact_type.FactType.TheVariants as types
use Rattle.fact_values.specs.declared.fault.ValueFault.{ValueFault}
use Rattle.fact_values.specs.declared.value.Value.{Value}
use Rattle.fact_values.specs.declared.value.Value.TheVariants.{Int, Dollar}
use Rattle.fact_values.specs.Totals.{checked}
use Rattle.three_state.specs.Folds.{verdict_on}
use Rattle.three_state.specs.Results.{after_verdict, count_of, field_operands, fields_in, members_of, strict_over_fields, truth, values_of}
use Rattle.three_state.specs.declared.res.Res.{Res}
use Rattle.three_state.specs.declared.strict.Verdict.{Verdict}
use Rattle.three_state.specs.declared.res.Res.TheVariants.{Complete, Placeholder}
use Rattle.three_state.proofs.FoldLaws.{verdict_on-start}
use Rattle.evaluation.specs.Operations.{dollar_in, int_in, sum_of_dollars, sum_of_ints, total, value_as}
use Rattle.evaluation.specs.Reads.{sum_over}
use Rattle.operations.specs.FieldFolds.{FieldsCounted, FieldsSummed, count_from, count_saw, count_start, no_fields, sum_from, sum_saw, sum_start}
use Rattle.operations.specs.Sources.{verdict_on_source}
use Rattle.operations.specs.Sums.{starting_at, sum_with}
use Rattle.operations.proofs.SumLaws.{sum_with-dollars, sum_with-ints}

-- ---- the operands are the collection, and then the fields

fields_in-operands : (source : Res) (field : ℕ → Res) → fields_in (values_of (field_operands source field)) ≡ values_of (map field (members_of source))
fields_in-operands (Complete v) field = refl
fields_in-operands _ field = refl

over_fields : (op : List Value → Result Value ValueFault) (source : Res) (field : ℕ → Res) (done : Result Value ValueFault)
    → done ≡ op (values_of (map field (members_of source)))
    → after_verdict (verdict_on (verdict_on_source source) (map field (members_of source))) done ≡ strict_over_fields op source field
over_fields op source field done e =
    ap₂ after_verdict (verdict_on-start (field_operands source field)) (e ∙ ap op (sym (fields_in-operands source field)))

-- ---- CollectionSum

sum_from-values : (seen : FieldsSummed) (rs : List Res) → sum_from seen rs ≡ after_verdict (verdict_on seen.verdict rs) (sum_with seen.sum (values_of rs))
sum_from-values seen [] = refl
sum_from-values seen (Complete v ∷ rs) = sum_from-values (sum_saw seen (Complete v)) rs
sum_from-values seen (r ∷ rs) = sum_from-values (sum_saw seen r) rs

zero-plus : (z : ℤ) → pos 0 +ℤ z ≡ z
zero-plus z = omega (arith, ints)

sum_of_ints-start : (vs : List Value) → sum_with (no_fields types.Int) vs ≡ sum_of_ints vs
sum_of_ints-start vs = sum_with-ints (starting_at (pos 0)) vs ∙ ap (λ z. value_as Int (checked z)) (zero-plus (total int_in vs))

sum_of_dollars-start : (vs : List Value) → sum_with (no_fields types.Dollar) vs ≡ sum_of_dollars vs
sum_of_dollars-start vs = sum_with-dollars (starting_at (pos 0)) vs ∙ ap (λ z. value_as Dollar (checked z)) (zero-plus (total dollar_in vs))

pub sum_from-start : (t : FactType) (source : Res) (field : ℕ → Res) → sum_from (sum_start t source) (map field (members_of source)) ≡ sum_over t source field
sum_from-start types.Dollar source field =
    let rs = map field (members_of source) in
    sum_from-values (sum_start types.Dollar source) rs ∙ over_fields sum_of_dollars source field _ (sum_of_dollars-start (values_of rs))
sum_from-start t source field =
    let rs = map field (members_of source) in
    sum_from-values (sum_start t source) rs ∙ over_fields sum_of_ints source field _ (sum_of_ints-start (values_of rs))

-- ---- Count

count-zero : (found : ℕ) → found ≡ found + 0
count-zero found = omega arith

count-next : (b : Bool) (found rest all : ℕ) → all ≡ (if b then 1 else 0) + rest → (if b then found + 1 else found) + rest ≡ found + all
count-next true found rest all e = omega arith
count-next false found rest all e = omega arith

true-cons : (v : Value) (vs : List Value) → count_by truth (v ∷ vs) ≡ (if truth v then 1 else 0) + count_by truth vs
true-cons v vs = sum_by-cons (λ w. if truth w then 1 else 0) v vs

abbrev counted : ℕ → Result Value ValueFault
counted n = Ok (Int (pos n))

-- one more value
value-counted : (verdict : Verdict) (found : ℕ) (v : Value) (vs : List Value)
    → after_verdict verdict (counted ((if truth v then found + 1 else found) + count_by truth vs)) ≡ after_verdict verdict (counted (found + count_by truth (v ∷ vs)))
value-counted verdict found v vs =
    ap (λ n. after_verdict verdict (counted n)) (count-next (truth v) found (count_by truth vs) (count_by truth (v ∷ vs)) (true-cons v vs))

count_from-values : (seen : FieldsCounted) (rs : List Res) → count_from seen rs ≡ after_verdict (verdict_on seen.verdict rs) (counted (seen.found + count_by truth (values_of rs)))
count_from-values seen [] = ap (λ k. after_verdict seen.verdict (counted k)) (count-zero seen.found)
count_from-values seen (Complete v ∷ rs) =
    count_from-values (count_saw seen (Complete v)) rs ∙ value-counted (verdict_on seen.verdict (Complete v ∷ rs)) seen.found v (values_of rs)
count_from-values seen (Placeholder v ∷ rs) =
    count_from-values (count_saw seen (Placeholder v)) rs ∙ value-counted (verdict_on seen.verdict (Placeholder v ∷ rs)) seen.found v (values_of rs)
count_from-values seen (r ∷ rs) = count_from-values (count_saw seen r) rs

none-plus : (n : ℕ) → 0 + n ≡ n
none-plus n = omega arith

pub count_from-start : (source : Res) (field : ℕ → Res) → count_from (count_start source) (map field (members_of source)) ≡ count_of source field
count_from-start source field =
    let rs = map field (members_of source) in
    count_from-values (count_start source) rs
    ∙ over_fields (λ fields. counted (count_by truth fields)) source field _ (ap counted (none-plus (count_by truth (values_of rs))))
