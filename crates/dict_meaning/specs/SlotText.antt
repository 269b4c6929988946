-- The path of a slot, and its text.
use Rattle.std.specs.Prelude.{◌≡◌, ◌↔◌, ℕ, ◌≤◌, List, [], Option, Some, None, option_map, option_and_then}
use Rattle.fact_paths.specs.Paths.{SpellsSlotPath, slot_path_text}
use Rattle.fact_paths.specs.declared.fact_path.FactPath.{FactPath}
use Rattle.fact_paths.specs.declared.fact_path.FactPath.TheVariants as facts
use Rattle.fact_paths.specs.declared.slot_path.SlotPath.{SlotPath}
use Rattle.fact_paths.specs.declared.slot_path.SlotPath.TheVariants as slots
use Rattle.fact_values.specs.declared.slot.Slot.{Slot}
use Rattle.dict_source.specs.Dictionary.{Dictionary as Tree}
use Rattle.dict_source.specs.Finding.{IsNumber, fact_at}
use Rattle.dict_meaning.specs.Accepted.{Accepted, IsAccepted}
use Rattle.dict_meaning.specs.Homes.{home}

-- the slot of a fact with this path, at the member
abbrev pub slot_path_of : ℕ → FactPath → SlotPath
slot_path_of member (facts.Global n) = slots.Global n
slot_path_of member (facts.Member c n) = slots.Member c member n

abbrev pub slot_path : Tree → Slot → Option SlotPath
slot_path d s = option_map (slot_path_of s.member) (option_and_then (λ f. f.path) (fact_at d.facts s.fact))

abbrev pub text_of_path : Option SlotPath → List ℕ
text_of_path None = []
text_of_path (Some path) = slot_path_text path

-- `/N`, or `/N/#K/M` of the member K
abbrev pub slot_text : Tree → Slot → List ℕ
slot_text d s = text_of_path (slot_path d s)

-- a slot that may stand: of a fact that is there, with no member for a global fact, and else with a member's number
pub record IsSlot (d : Tree) (s : Slot) : Type 0 where
  pub there : IsNumber d.facts s.fact
  pub once : (s.member ≡ 0) ↔ (home d s.fact ≡ 0)
  pub member : s.member ≤ 1000000

-- ---- laws

-- the text spells the slot's path
abbrev pub TextSpellsPath : Type 0
TextSpellsPath = (names : List (List ℕ)) (d : Accepted) (s : Slot) → IsAccepted names d → IsSlot d.tree s → (path : SlotPath) × (slot_path d.tree s ≡ Some path) × SpellsSlotPath (slot_text d.tree s) path
