use Rattle.std.proofs.Common.{◌≡◌, ◌≤◌, ◌<◌, ℕ, ℤ, pos, neg_ℤ, unsigned_abs, to_z, of_z, sym, ap, subst, ◌∙◌}
use Rattle.std.specs.Int.{w128}
use Rattle.std.specs.Int.Signed.{lt_z}
use Rattle.std.proofs.lemmas.Int.{to_z-of_z}
use Rattle.fact_values.specs.Rationals.{checked_lowest}
use Rattle.fact_values.proofs.Signs.{above_size, below_size, negated, negated_size, negation_fits, ratio_above, ratio_below}
use Rattle.fact_values.proofs.rational.Rational.new.Goals as goal

pub overflow_sub-num : goal.overflow_sub-num
overflow_sub-num c = negation_fits c.args.num c.ranges.num c.requires.num_size

pub lowest-requires : goal.lowest-requires
lowest-requires c =
    let kept : to_z w128 (of_z w128 c.args.den) ≡ c.args.den = to_z-of_z w128 c.args.den c.ranges.den in
    let size : c.unsigned_abs.result ≡ unsigned_abs c.args.den = c.unsigned_abs.ensures.value ∙ ap unsigned_abs kept in
    record {
      num_size = negated_size c.args.num c.ranges.num c.requires.num_size;
      den_size = subst (λ (k : ℕ). k ≤ 1000000000000000000000000000000) (sym size) c.requires.den_size;
      some = subst (λ (k : ℕ). 0 < k) (sym size) (below_size c.args.den (ap (λ (z : ℤ). lt_z z (pos 0)) (sym kept) ∙ c.if-den-lt0.true));
    }

pub returns-then-den-lt0 : goal.returns-then-den-lt0
returns-then-den-lt0 c =
    let kept : to_z w128 (of_z w128 c.args.den) ≡ c.args.den = to_z-of_z w128 c.args.den c.ranges.den in
    c.lowest.ensures.value
    ∙ ap (λ (z : ℤ). checked_lowest z c.unsigned_abs.result) (negated c.args.num c.ranges.num c.requires.num_size)
    ∙ ap (λ (k : ℕ). checked_lowest (neg_ℤ c.args.num) k) (c.unsigned_abs.ensures.value ∙ ap unsigned_abs kept)
    ∙ sym (ratio_below c.args.num c.args.den (ap (λ (z : ℤ). lt_z z (pos 0)) (sym kept) ∙ c.if-den-lt0.true))

pub lowest-requires-else-den-lt0 : goal.lowest-requires-else-den-lt0
lowest-requires-else-den-lt0 c =
    let kept : to_z w128 (of_z w128 c.args.den) ≡ c.args.den = to_z-of_z w128 c.args.den c.ranges.den in
    let size : c.unsigned_abs-else-den-lt0.result ≡ unsigned_abs c.args.den = c.unsigned_abs-else-den-lt0.ensures.value ∙ ap unsigned_abs kept in
    record {
      num_size = subst (λ (z : ℤ). unsigned_abs z ≤ 1000000000000000000000000000000) (sym (to_z-of_z w128 c.args.num c.ranges.num)) c.requires.num_size;
      den_size = subst (λ (k : ℕ). k ≤ 1000000000000000000000000000000) (sym size) c.requires.den_size;
      some = subst (λ (k : ℕ). 0 < k) (sym size) (above_size c.args.den (ap (λ (z : ℤ). lt_z z (pos 0)) (sym kept) ∙ c.if-den-lt0.false) c.if-den-eq0.false);
    }

pub returns-else-den-lt0 : goal.returns-else-den-lt0
returns-else-den-lt0 c =
    let kept : to_z w128 (of_z w128 c.args.den) ≡ c.args.den = to_z-of_z w128 c.args.den c.ranges.den in
    c.lowest-else-den-lt0.ensures.value
    ∙ ap (λ (z : ℤ). checked_lowest z c.unsigned_abs-else-den-lt0.result) (to_z-of_z w128 c.args.num c.ranges.num)
    ∙ ap (λ (k : ℕ). checked_lowest c.args.num k) (c.unsigned_abs-else-den-lt0.ensures.value ∙ ap unsigned_abs kept)
    ∙ sym (ratio_above c.args.num c.args.den (ap (λ (z : ℤ). lt_z z (pos 0)) (sym kept) ∙ c.if-den-lt0.false) c.if-den-eq0.false)
