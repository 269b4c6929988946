-- Which answers the fields of `Answers` stand for, and which change an edit makes.
use Rattle.std.specs.Prelude.{Box, ℕ, List, [], Option, Some, None, option_map}
use Rattle.std.specs.declared.alloc.Global.{Global}
use Rattle.fact_values.specs.declared.value.Value.{Value as Worth}
use Rattle.answers.specs.Finite.{Numbered, map_of}
use Rattle.answers.specs.Answered.{Entry, Answered}
use Rattle.answers.specs.Change.{Change, sets, opens, closes, adds, takes, removes, puts_back}
use Rattle.answers.specs.declared.sides.Sides.{Sides}
use Rattle.answers.specs.declared.sides.SidesByFact.{SidesByFact}
use Rattle.answers.specs.declared.entries.Entries.{Entries}
use Rattle.answers.specs.declared.edit.Side.{Side}
use Rattle.answers.specs.declared.edit.Side.TheVariants.{Answer, Override as Overriding}
use Rattle.answers.specs.declared.edit.Edit.{Edit}
use Rattle.answers.specs.declared.edit.Edit.TheVariants.{Value, Override, OpenList, CloseList, AddNew, TakeNew, Remove, PutBack}
use Rattle.answers.specs.declared.lists.Lists.{Lists}
use Rattle.answers.specs.declared.members.Members.{Members}
use Rattle.answers.specs.declared.parts.Parts.{Parts}

-- one side of what stands at a slot
abbrev pub side_of : Side → Sides → Option Worth
side_of Answer p = p.answer
side_of Overriding p = p.overriding

abbrev pub entry_in : List (ℕ × Sides) → Entry
entry_in sides = record { values = map_of (side_of Answer) sides; overrides = map_of (side_of Overriding) sides }

-- both sides by fact: none where no value was put yet
abbrev pub kept_sides : Option (Box SidesByFact Global) → List (ℕ × Sides)
kept_sides None = []
kept_sides (Some sides) = sides.value.by_fact.entries

abbrev pub sides_by_fact : Entries → List (ℕ × Sides)
sides_by_fact e = kept_sides e.kept

abbrev pub entry_of : Entries → Entry
entry_of e = entry_in (sides_by_fact e)

abbrev pub maybe_entry : Option Entries → Option Entry
maybe_entry o = option_map entry_of o

-- the open lists, and the entries of the members
abbrev pub lists_of : Lists → Numbered (List ℕ)
lists_of l = map_of (λ o. o) l.kept.entries

abbrev pub members_of : Members → Numbered Entry
members_of m = map_of maybe_entry m.kept.entries

abbrev pub answered : Parts → Answered
answered a = record { next = a.next; lists = lists_of a.lists; globals = entry_of a.globals; members = members_of a.members }

abbrev pub change : Edit → Change
change (Value s v) = sets Answer s v
change (Override s v) = sets Overriding s v
change (OpenList c) = opens c
change (CloseList c) = closes c
change (AddNew c) = adds c
change (TakeNew c closed) = takes c closed
change (Remove c m) = removes c m
change (PutBack c g) = puts_back c g.place g.member (entry_of g.entries)
