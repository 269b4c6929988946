-- Which collections, members and slots have a place, and which changes need no memory.
use Rattle.std.specs.Prelude.{ℕ, List, ◌-◌, Bool, true, false, Option, None, Some, IsSome, nat_eq}
use Rattle.std.specs.Map.{lookup}
use Rattle.fact_values.specs.declared.slot.Slot.{Slot}
use Rattle.answers.specs.Answered.{Answered, value_of}
use Rattle.answers.specs.Change.{Change, sets, opens, closes, adds, takes, removes, puts_back}
use Rattle.answers.specs.Meaning.{sides_by_fact}
use Rattle.answers.specs.declared.edit.Side.{Side}
use Rattle.answers.specs.declared.sides.Sides.{Sides}
use Rattle.answers.specs.declared.entries.Entries.{Entries}
use Rattle.answers.specs.declared.lists.Lists.{Lists}
use Rattle.answers.specs.declared.members.Members.{Members}
use Rattle.answers.specs.declared.parts.Parts.{Parts}

-- a collection has a place, for all its 100 members
abbrev pub HasList : Lists → ℕ → Type 0
HasList l c = IsSome (lookup (nat_eq c) l.kept.entries)

-- a member has a place, for its entry
abbrev pub HasMember : Members → ℕ → Type 0
HasMember m k = IsSome (lookup (nat_eq k) m.kept.entries)

-- a fact has a place, for an answer and an override
abbrev pub HasSides : List (ℕ × Sides) → ℕ → Type 0
HasSides sides f = IsSome (lookup (nat_eq f) sides)

abbrev pub HasFact : Entries → ℕ → Type 0
HasFact e f = HasSides (sides_by_fact e) f

-- a fact has a place in the entry of a member that stands
abbrev pub InEntry : Option Entries → ℕ → Type 0
InEntry None f = ⊥
InEntry (Some e) f = HasFact e f

abbrev pub AtMember : Option (Option Entries) → ℕ → Type 0
AtMember None f = ⊥
AtMember (Some o) f = InEntry o f

abbrev pub HasMemberFact : Members → ℕ → ℕ → Type 0
HasMemberFact m k f = AtMember (lookup (nat_eq k) m.kept.entries) f

abbrev pub SlotPlace : Bool → Parts → Slot → Type 0
SlotPlace true a s = HasFact a.globals s.fact
SlotPlace false a s = HasMemberFact a.members s.member s.fact

-- a slot has a place
abbrev pub HasSlot : Parts → Slot → Type 0
HasSlot a s = SlotPlace (nat_eq s.member 0) a s

-- there is room for a change
abbrev pub HasRoom : Change → Parts → Type 0
HasRoom (sets side s None) a = Unit {0}
HasRoom (sets side s (Some v)) a = HasSlot a s
HasRoom (opens c) a = HasList a.lists c
HasRoom (closes c) a = Unit {0}
HasRoom (adds c) a = HasList a.lists c × HasMember a.members a.next
HasRoom (takes c closed) a = Unit {0}
HasRoom (removes c m) a = Unit {0}
HasRoom (puts_back c place m e) a = HasMember a.members m

-- the places after a change of the answers `before`: each collection and member that it names has one, and so has the
-- slot that it names, where that has an answer or an override before or after
abbrev pub HasPlaces : Change → Answered → Parts → Type 0
HasPlaces (sets side s v) before a = (IsSome v → HasSlot a s) × ((other : Side) → IsSome (value_of other before s) → HasSlot a s)
HasPlaces (opens c) before a = HasList a.lists c
HasPlaces (closes c) before a = HasList a.lists c
HasPlaces (adds c) before a = HasList a.lists c × HasMember a.members before.next
HasPlaces (takes c closed) before a = HasList a.lists c × HasMember a.members (before.next - 1)
HasPlaces (removes c m) before a = HasList a.lists c × HasMember a.members m
HasPlaces (puts_back c place m e) before a = HasList a.lists c × HasMember a.members m
