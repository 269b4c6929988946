-- Changes of answers: what each makes of them, where it can be made, and which change undoes it.
use Rattle.std.specs.Prelude.{◌≡◌, ◌<◌, ◌≤◌, ◌+◌, ◌-◌, ℕ, Bool, true, false, List, [], ◌∷◌, ◌++◌, length, insert, Option, Some, None, is_some, not, nat_eq, if◌then◌else◌, option_map, unwrap_or}
use Rattle.std.specs.FinMap as map
use Rattle.fact_values.specs.declared.slot.Slot.{Slot}
use Rattle.fact_values.specs.declared.value.Value.{Value}
use Rattle.answers.specs.declared.edit.Side.{Side}
use Rattle.answers.specs.declared.edit.Side.TheVariants.{Answer, Override}
use Rattle.answers.specs.Finite.{put_at}
use Rattle.answers.specs.Lists.{IsIn, IsNotIn, without, place_of, without_last}
use Rattle.answers.specs.Answered.{Entry, blank, Answered, list_of, value_of}

pub data Change : Type 0 where
  sets : Side → Slot → Option Value → Change  -- answers or overrides a slot, or takes that away
  opens : ℕ → Change  -- a collection, without members
  closes : ℕ → Change
  adds : ℕ → Change  -- a new member, to a collection that it opens where it isn't open
  takes : ℕ → Bool → Change  -- the newest member out of a collection, and closes this or not
  removes : ℕ → ℕ → Change  -- out of a collection, a member
  puts_back : ℕ → ℕ → ℕ → Entry → Change  -- into a collection, at a place, a member, with its entry

-- an entry with a fact answered or overridden
abbrev pub with_value : Side → ℕ → Option Value → Entry → Entry
with_value Answer f v e = record { values = put_at e.values f v; overrides = e.overrides }
with_value Override f v e = record { values = e.values; overrides = put_at e.overrides f v }

abbrev pub applied : Change → Answered → Answered
applied (sets side s v) a = record {
  next = a.next;
  lists = a.lists;
  globals = if nat_eq s.member 0 then with_value side s.fact v a.globals else a.globals;
  members = if nat_eq s.member 0 then a.members else put_at a.members s.member (option_map (with_value side s.fact v) (map.get a.members s.member));
}
applied (opens c) a = record { next = a.next; lists = put_at a.lists c (Some []); globals = a.globals; members = a.members }
applied (closes c) a = record { next = a.next; lists = put_at a.lists c None; globals = a.globals; members = a.members }
applied (adds c) a = record {
  next = a.next + 1;
  lists = put_at a.lists c (Some (list_of a c ++ a.next ∷ []));
  globals = a.globals;
  members = put_at a.members a.next (Some blank);
}
applied (takes c closed) a = record {
  next = a.next - 1;
  lists = put_at a.lists c (if closed then None else Some (without_last (list_of a c)));
  globals = a.globals;
  members = put_at a.members (a.next - 1) None;
}
applied (removes c m) a = record {
  next = a.next;
  lists = put_at a.lists c (Some (without m (list_of a c)));
  globals = a.globals;
  members = put_at a.members m None;
}
applied (puts_back c place m e) a = record {
  next = a.next;
  lists = put_at a.lists c (Some (insert (list_of a c) place m));
  globals = a.globals;
  members = put_at a.members m (Some e);
}

-- the change that gives back the answers before
abbrev pub inverse : Change → Answered → Change
inverse (sets side s v) a = sets side s (value_of side a s)
inverse (opens c) a = closes c
inverse (closes c) a = opens c
inverse (adds c) a = takes c (not (is_some (map.get a.lists c)))
inverse (takes c closed) a = adds c
inverse (removes c m) a = puts_back c (place_of m (list_of a c)) m (unwrap_or (map.get a.members m) blank)
inverse (puts_back c place m e) a = removes c m

-- the member is in some list
abbrev pub IsListed : Answered → ℕ → Type 0
IsListed a m = (c : ℕ) × IsIn m (list_of a c)

-- 0, which stands for no member, or a member that is in some list
abbrev pub Stands : Answered → ℕ → Type 0
Stands a m = nat_eq m 0 ≡ false → IsListed a m

-- the change can be made
abbrev pub Fits : Change → Answered → Type 0
Fits (sets side s v) a = Stands a s.member
Fits (opens c) a = map.get a.lists c ≡ None
Fits (closes c) a = map.get a.lists c ≡ Some []
Fits (adds c) a = (length (list_of a c) < 100) × (a.next ≤ 1000000)
Fits (takes c closed) a = (xs : List ℕ) × (map.get a.lists c ≡ Some (xs ++ (a.next - 1) ∷ [])) × (map.get a.members (a.next - 1) ≡ Some blank) × (closed ≡ true → xs ≡ [])
Fits (removes c m) a = IsIn m (list_of a c)
Fits (puts_back c place m e) a = (xs : List ℕ) × (map.get a.lists c ≡ Some xs) × (length xs < 100) × (place ≤ length xs) × ((d : ℕ) → IsNotIn m (list_of a d)) × (m < a.next)
