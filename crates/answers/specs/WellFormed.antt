-- What is true of all answers.
use Rattle.std.specs.Prelude.{◌≡◌, ◌≤◌, ℕ, length, None, IsSome}
use Rattle.std.specs.FinMap as map
use Rattle.answers.specs.Lists.{IsIn, Once}
use Rattle.answers.specs.Answered.{Answered, list_of}
use Rattle.answers.specs.Change.{Change, sets, opens, closes, adds, takes, removes, puts_back, IsListed}

pub record WellFormed (a : Answered) : Type 0 where
  pub high : a.next ≤ 1000001
  -- a member is numbered below the next one, is in one list alone, once, and has an entry, and none but members have one
  pub below : (m : ℕ) → a.next ≤ m → map.get a.members m ≡ None
  pub short : (c : ℕ) → length (list_of a c) ≤ 100
  pub distinct : (c : ℕ) → Once (list_of a c)
  pub apart : (c d m : ℕ) → IsIn m (list_of a c) → IsIn m (list_of a d) → c ≡ d
  pub listed : (c m : ℕ) → IsIn m (list_of a c) → IsSome (map.get a.members m)
  pub only : (m : ℕ) → IsSome (map.get a.members m) → IsListed a m

-- members are numbered from 1
pub record FromOne (a : Answered) : Type 0 where
  pub low : 1 ≤ a.next
  pub zero : map.get a.members 0 ≡ None

-- the change gives no member the number 0
abbrev pub PutsFromOne : Change → Type 0
PutsFromOne (sets side s v) = Unit {0}
PutsFromOne (opens c) = Unit {0}
PutsFromOne (closes c) = Unit {0}
PutsFromOne (adds c) = Unit {0}
PutsFromOne (takes c closed) = Unit {0}
PutsFromOne (removes c m) = Unit {0}
PutsFromOne (puts_back c place m e) = 1 ≤ m
