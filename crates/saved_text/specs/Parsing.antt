-- What the parts of a line are read as.
use Rattle.std.specs.Prelude.{◌≡◌, ◌≢◌, ℕ, ◌≤◌, Bool, not, nat_eq, nat_lt, List, [], ◌∷◌, ◌++◌, Result, Ok, Err, Vec}
use Rattle.std.specs.List.{AllByRecursion, list_all, list_any}
use Rattle.std.specs.declared.alloc.Global.{Global}
use Rattle.fact_paths.specs.Paths.{IsMemberNumber}
use Rattle.value_text.specs.MemberTexts.{printed_item, printed_rest}
use Rattle.script_lines.specs.declared.fault.LineFault.{LineFault}
use Rattle.script_lines.specs.declared.fault.LineFault.TheVariants.{BadLine, NoMemory}

-- ---- numbers

-- the next member's, which is one past the last member's where all are given out
abbrev pub IsNextNumber : ℕ → Type 0
IsNextNumber k = (1 ≤ k) × (k ≤ 1000001)

-- one more member, which the word spells
abbrev pub ReadsMember : List ℕ → List ℕ → List ℕ → Result (Unit {0}) LineFault → Type 0
ReadsMember word old new (Ok done) = (m : ℕ) × (new ≡ old ++ m ∷ []) × IsMemberNumber m × (word ≡ printed_item m)
ReadsMember word old new (Err BadLine) = (m : ℕ) → IsMemberNumber m → word ≢ printed_item m
ReadsMember word old new (Err NoMemory) = Unit {0}

-- the members whose text is this, each behind a blank
abbrev pub ReadsMembers : List ℕ → Result (Vec ℕ Global) LineFault → Type 0
ReadsMembers tail (Ok found) = (printed_rest found.items ≡ tail) × AllByRecursion IsMemberNumber found.items
ReadsMembers tail (Err BadLine) = (ms : List ℕ) → AllByRecursion IsMemberNumber ms → printed_rest ms ≢ tail
ReadsMembers tail (Err NoMemory) = Unit {0}

-- ---- members of two lists

-- none of the members is another, and each is below a number
abbrev pub are_others : List ℕ → List ℕ → Bool
are_others others members = not (list_any (λ m. list_any (nat_eq m) others) members)

abbrev pub are_below : ℕ → List ℕ → Bool
are_below next members = list_all (λ m. nat_lt m next) members
