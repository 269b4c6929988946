-- The slots that a walk has found.
use Rattle.std.specs.Prelude.{ℕ, ◌&&◌, Bool, nat_eq}
use Rattle.std.specs.HashSet.{contains}
use Rattle.fact_values.specs.declared.slot.Slot.{Slot}
use Rattle.explain.specs.declared.found.Found.{Found}

-- a fact and a member
abbrev pub Key : Type 0
Key = ℕ × ℕ

abbrev pub same_key : Key → Key → Bool
same_key k l = nat_eq k.0 l.0 && nat_eq k.1 l.1

abbrev pub has : Found → Slot → Bool
has f s = contains same_key f.keys (s.fact, s.member)
