-- The range of whole numbers, and of amounts in cents.
use Rattle.std.specs.Prelude.{ℤ, Bool, IsTrue, nat_lt, unsigned_abs}

-- less than 10^15 in size
abbrev pub is_in_range : ℤ → Bool
is_in_range z = nat_lt (unsigned_abs z) 1000000000000000

abbrev pub IsInRange : ℤ → Type 0
IsInRange z = IsTrue (is_in_range z)
