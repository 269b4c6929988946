-- Amounts to whose multiples is rounded.
use Rattle.std.specs.Prelude.{ℕ, ◌≤◌, ◌<◌}

-- from one cent to less than 10^15
abbrev pub IsIncrement : ℕ → Type 0
IsIncrement cents = (1 ≤ cents) × (cents < 1000000000000000)
