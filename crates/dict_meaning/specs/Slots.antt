-- Which slots stand: a fact's own, or one for each member of its collection.
use Rattle.std.specs.Prelude.{◌≡◌, ℕ, zero, suc, ◌&&◌, Bool, false, nat_eq, if◌then◌else◌, List, [], ◌∷◌, ◌++◌, length, map, Option, Some, None}
use Rattle.std.specs.List.{list_any}
use Rattle.fact_values.specs.declared.slot.Slot.{Slot}
use Rattle.dict_source.specs.Facts.{Fact}
use Rattle.dict_source.specs.Dictionary.{Dictionary as Tree}
use Rattle.dict_source.specs.Finding.{fact_at}
use Rattle.answers.specs.Answered.{Answered, list_of}
use Rattle.dict_meaning.specs.Homes.{home}
use Rattle.evaluation.specs.Results.{slot}

-- the member is one of the collection of this fact
abbrev pub is_member : Answered → ℕ → ℕ → Bool
is_member a c m = list_any (nat_eq m) (list_of a c)

-- a fact of this home has a slot at the member
abbrev pub stands_at : Answered → ℕ → ℕ → Bool
stands_at a h m = if nat_eq h 0 then nat_eq m 0 else is_member a h m

abbrev pub stands_of : Answered → ℕ → ℕ → Option Fact → Bool
stands_of a h m None = false
stands_of a h m (Some f) = stands_at a h m

-- the slot stands
abbrev pub stands : Tree → Answered → Slot → Bool
stands d a s = stands_of a (home d s.fact) s.member (fact_at d.facts s.fact)

-- ---- the same as a list

-- the members at which a fact of this home has a slot
abbrev pub members_of_home : Answered → ℕ → List ℕ
members_of_home a h = if nat_eq h 0 then 0 ∷ [] else list_of a h

abbrev pub slots_of : Tree → Answered → ℕ → List Slot
slots_of d a fact = map (slot fact) (members_of_home a (home d fact))

-- those of the first so many facts
abbrev pub slots_up_to : Tree → Answered → ℕ → List Slot
slots_up_to d a zero = []
slots_up_to d a (suc n) = slots_up_to d a n ++ slots_of d a (suc n)

-- each slot that stands, fact by fact, and of a fact in the order of the members
unfoldable pub standing : Tree → Answered → List Slot
standing d a = slots_up_to d a (length d.facts)

-- ---- a law

abbrev pub slot_same : Slot → Slot → Bool
slot_same s t = nat_eq s.fact t.fact && nat_eq s.member t.member

-- the list has exactly the slots that stand
abbrev pub ListedStand : Type 0
ListedStand = (d : Tree) (a : Answered) (s : Slot) → list_any (slot_same s) (standing d a) ≡ stands d a s
