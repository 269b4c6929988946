-- How long decimals are.
use Rattle.std.proofs.Common.{ℕ, ◌^◌, ◌<◌, ◌≤◌, length, decimal, arith}
use Rattle.std.proofs.lemmas.Fmt.{length-decimal-le}

pub decimal_within : (n : ℕ) → n < 10 ^ 15 → length (decimal n) ≤ 15
decimal_within n small = length-decimal-le 15 n (omega arith) small (omega arith)

pub decimal_of_member : (n : ℕ) → n < 10000000 → length (decimal n) ≤ 7
decimal_of_member n small = length-decimal-le 7 n (omega arith) (omega arith) (omega arith)
