use Rattle.std.proofs.Common.{refl}
use Rattle.law_arithmetic.proofs.MultipleLemmas.{only_rounded_up, only_rounded_down, only_rounded_nearest}
use Rattle.law_arithmetic.proofs.laws.one_multiple.Goals as goal

pub returns : goal.returns
returns c = record { up = only_rounded_up; down = only_rounded_down; nearest = only_rounded_nearest; dollars = λ cents. refl }
