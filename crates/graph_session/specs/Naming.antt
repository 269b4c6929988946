-- Which slot a path names.
use Rattle.std.specs.Prelude.{ℕ, Bool, false, not, Option, is_none, unwrap_or}
use Rattle.fact_paths.specs.declared.fact_path.FactPath.{FactPath}
use Rattle.fact_paths.specs.declared.fact_path.FactPath.TheVariants as facts
use Rattle.fact_paths.specs.declared.slot_path.SlotPath.{SlotPath}
use Rattle.fact_paths.specs.declared.slot_path.SlotPath.TheVariants.{Global, Member}
use Rattle.fact_values.specs.declared.slot.Slot.{Slot}
use Rattle.dict_source.specs.Dictionary.{Dictionary as Tree}
use Rattle.dict_source.specs.Finding.{find_path}
use Rattle.dict_source.specs.Targets.{find_global}
use Rattle.answers.specs.Answered.{Answered}
use Rattle.evaluation.specs.Results.{slot}
use Rattle.dict_meaning.specs.Slots.{is_member}

-- the fact's path: `/N` of `/N`, and `/N/*/M` of `/N/#K/M`
abbrev pub path_of : SlotPath → FactPath
path_of (Global n) = facts.Global n
path_of (Member c k n) = facts.Member c n

-- the member: 0 of a fact that stands once
abbrev pub member_of : SlotPath → ℕ
member_of (Global n) = 0
member_of (Member c k n) = k

-- the fact's number, where the dictionary has the fact
abbrev pub named_fact : Tree → SlotPath → Option ℕ
named_fact d path = find_path d.facts (path_of path)

-- the dictionary doesn't have it
abbrev pub is_unknown : Tree → SlotPath → Bool
is_unknown d path = is_none (named_fact d path)

-- the path has a member that isn't in its collection
abbrev pub lacks_member : Tree → Answered → SlotPath → Bool
lacks_member d a (Global n) = false
lacks_member d a (Member c k n) = not (is_member a (unwrap_or (find_global d c) 0) k)

-- the fact and the slot that a path names; no fact has the number 0
abbrev pub fact_of : Tree → SlotPath → ℕ
fact_of d path = unwrap_or (named_fact d path) 0

abbrev pub slot_of : Tree → SlotPath → Slot
slot_of d path = slot (fact_of d path) (member_of path)
