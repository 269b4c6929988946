use Rattle.std.proofs.Common.{arith}
use Rattle.value_text.proofs.DigitLemmas.{small_after}
use Rattle.value_text.proofs.digits.digits_number.Goals as goal

pub overflow_mul-number : goal.overflow_mul-number
overflow_mul-number c =
    let small = small_after c.loop-byte.number c.loop-byte.byte-index c.loop-byte.invariant.small (omega arith) in
    omega (arith, small)

pub overflow_add-number : goal.overflow_add-number
overflow_add-number c =
    let small = small_after c.loop-byte.number c.loop-byte.byte-index c.loop-byte.invariant.small (omega arith) in
    omega (arith, small)
