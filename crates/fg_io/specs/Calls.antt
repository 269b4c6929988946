-- The numbers of calls, from 1: which of them fail, and how faults are counted.
use Rattle.std.specs.Prelude.{◌≡◌, ℕ, List, Contains}
use Rattle.fg_io.specs.Outside.{Pulled, gave, faulted, next_count}

-- the call after so many is one of those that fail
abbrev pub Fails : List ℕ → ℕ → Type 0
Fails failing calls = Contains failing (next_count calls)

-- a pull leaves a count of faults, and a fault raises it
abbrev pub IsCounted : ℕ → ℕ → Pulled → Type 0
IsCounted count count_now (gave bytes) = count_now ≡ count
IsCounted count count_now faulted = count_now ≡ next_count count
