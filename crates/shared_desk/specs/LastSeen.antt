-- At which number of changes a party looked at a slot.
use Rattle.std.specs.Prelude.{ℕ, ◌&&◌, Bool, nat_eq, List, unwrap_or}
use Rattle.std.specs.Map.{lookup}
use Rattle.fact_values.specs.declared.slot.Slot.{Slot}

-- a party, and a slot's fact and member
abbrev pub Key : Type 0
Key = ℕ × (ℕ × ℕ)

abbrev pub key_of : ℕ → Slot → Key
key_of p s = (p, (s.fact, s.member))

abbrev pub same_key : Key → Key → Bool
same_key k l = nat_eq k.0 l.0 && (nat_eq k.1.0 l.1.0 && nat_eq k.1.1 l.1.1)

-- the number of changes at the party's look that is kept: 0 where none is
abbrev pub look_in : List (Key × ℕ) → ℕ → Slot → ℕ
look_in last_seen p s = unwrap_or (lookup (same_key (key_of p s)) last_seen) 0
