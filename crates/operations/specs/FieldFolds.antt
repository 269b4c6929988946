-- CollectionSum and Count, one field after another, as loops take them.
use Rattle.std.specs.Prelude.{◌≡◌, ℕ, ◌+◌, pos, if◌then◌else◌, List, fold, Ok}
use Rattle.fact_values.specs.declared.fact_type.FactType.{FactType}
use Rattle.fact_values.specs.declared.fact_type.FactType.TheVariants as types
use Rattle.fact_values.specs.declared.value.Value.TheVariants.{Int}
use Rattle.three_state.specs.Folds.{verdict_next}
use Rattle.three_state.specs.Results.{after_verdict, is_true}
use Rattle.three_state.specs.declared.res.Res.{Res}
use Rattle.three_state.specs.declared.res.Res.TheVariants.{Complete, Placeholder}
use Rattle.three_state.specs.declared.strict.Verdict.{Verdict}
use Rattle.operations.specs.Sources.{verdict_on_source}
use Rattle.operations.specs.Sums.{added, starting_at, sum_of_seen}
use Rattle.operations.specs.declared.sum.Summed.{Summed}
use Rattle.operations.specs.declared.sum.Summed.TheVariants.{Ints, Dollars}

-- ---- CollectionSum

-- how many fields were seen, the verdict on the collection and on them, and the sum of their values
pub record FieldsSummed : Type 0 where
  pub count : ℕ
  pub verdict : Verdict
  pub sum : Summed

abbrev pub no_fields : FactType → Summed
no_fields types.Dollar = Dollars (starting_at (pos 0))
no_fields _ = Ints (starting_at (pos 0))

-- a field that has no value leaves the sum as it was
abbrev pub added_after : Summed → Res → Summed
added_after sum (Complete v) = added sum v
added_after sum (Placeholder v) = added sum v
added_after sum _ = sum

abbrev pub sum_start : FactType → Res → FieldsSummed
sum_start t source = record { count = 0; verdict = verdict_on_source source; sum = no_fields t }

abbrev pub sum_saw : FieldsSummed → Res → FieldsSummed
sum_saw seen r = record { count = seen.count + 1; verdict = verdict_next seen.verdict r; sum = added_after seen.sum r }

abbrev pub sum_end : FieldsSummed → Res
sum_end seen = after_verdict seen.verdict (sum_of_seen seen.sum)

-- the result, with the fields that are left
abbrev pub sum_from : FieldsSummed → List Res → Res
sum_from seen rs = sum_end (fold sum_saw seen rs)

-- the collection was seen, and then these fields, in their order
abbrev pub AreSummed : FactType → Res → List Res → FieldsSummed → Type 0
AreSummed t source rs seen = seen ≡ fold sum_saw (sum_start t source) rs

-- ---- Count

-- how many fields were seen, the verdict on the collection and on them, and how many are true
pub record FieldsCounted : Type 0 where
  pub count : ℕ
  pub verdict : Verdict
  pub found : ℕ

abbrev pub found_next : ℕ → Res → ℕ
found_next found r = if is_true r then found + 1 else found

abbrev pub count_start : Res → FieldsCounted
count_start source = record { count = 0; verdict = verdict_on_source source; found = 0 }

abbrev pub count_saw : FieldsCounted → Res → FieldsCounted
count_saw seen r = record { count = seen.count + 1; verdict = verdict_next seen.verdict r; found = found_next seen.found r }

abbrev pub count_end : FieldsCounted → Res
count_end seen = after_verdict seen.verdict (Ok (Int (pos seen.found)))

-- the result, with the fields that are left
abbrev pub count_from : FieldsCounted → List Res → Res
count_from seen rs = count_end (fold count_saw seen rs)

-- the collection was seen, and then these fields, in their order
abbrev pub AreCounted : Res → List Res → FieldsCounted → Type 0
AreCounted source rs seen = seen ≡ fold count_saw (count_start source) rs
