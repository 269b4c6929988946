use Rattle.std.proofs.Common.{◌∙◌, ◌+◌, unsigned_abs, w64, to_z, of_z, arith}
use Rattle.jiff_core.proofs.SignedLemmas.{signed_arith}
use Rattle.law_arithmetic.proofs.MonthLemmas.{month_by_parts}
use Rattle.law_arithmetic.proofs.months.after_january.Goals as goal

pub returns : goal.returns
returns c =
    c.in_month.ensures
    ∙ month_by_parts c.args.months (to_z w64 (of_z w64 c.div_euclid.result)) (unsigned_abs (to_z w64 (of_z w64 c.rem_euclid.result)) + 1) c.args.day
    (omega (arith, signed_arith, c.div_euclid.ensures))
    (omega (arith, signed_arith, c.rem_euclid.ensures.value))
