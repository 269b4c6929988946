-- What answers are: which collections are open and with which members, which slots have an answer or an override, and
-- the number of the next member. No order and no memory is in it, so two such records are equal where all of this is.
use Rattle.std.specs.Prelude.{ℕ, List, [], Option, Some, nat_eq, unwrap_or, if◌then◌else◌}
use Rattle.std.specs.FinMap as map
use Rattle.fact_values.specs.declared.slot.Slot.{Slot}
use Rattle.fact_values.specs.declared.value.Value.{Value}
use Rattle.answers.specs.declared.edit.Side.{Side}
use Rattle.answers.specs.declared.edit.Side.TheVariants.{Answer, Override}
use Rattle.answers.specs.Finite.{Numbered, and_then}

-- the answers and the overrides of one member, by fact
pub record Entry : Type 0 where
  pub values : Numbered Value
  pub overrides : Numbered Value

abbrev pub blank : Entry
blank = record { values = map.empty; overrides = map.empty }

-- the number of the next member; the members of each open collection, in order, by the collection's fact; the entry of
-- the facts that stand once; and that of each member
pub record Answered : Type 0 where
  pub next : ℕ
  pub lists : Numbered (List ℕ)
  pub globals : Entry
  pub members : Numbered Entry

-- nothing is answered, and no collection is open
abbrev pub start_at : ℕ → Answered
start_at n = record { next = n; lists = map.empty; globals = blank; members = map.empty }

abbrev pub start : Answered
start = start_at 1

-- the members of a collection: none where it isn't open
abbrev pub list_of : Answered → ℕ → List ℕ
list_of a c = unwrap_or (map.get a.lists c) []

-- the entry of a member, and under 0 that of the facts that stand once
abbrev pub entry : Answered → ℕ → Option Entry
entry a m = if nat_eq m 0 then Some a.globals else map.get a.members m

abbrev pub of_side : Side → Entry → Numbered Value
of_side Answer e = e.values
of_side Override e = e.overrides

-- the answer to a slot, or its override
abbrev pub value_of : Side → Answered → Slot → Option Value
value_of side a s = and_then (λ (e : Entry). map.get (of_side side e) s.fact) (entry a s.member)
