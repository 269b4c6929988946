-- What a change did, read off the answers after it and the change that undoes it.
use Rattle.std.specs.Prelude.{◌≡◌, ℕ, ◌-◌, Bool, true, false, not, ◌&&◌, ◌||◌, IsTrue, nat_eq, List}
use Rattle.fact_values.specs.declared.slot.Slot.{Slot}
use Rattle.three_state.specs.Equality.{value_same}
use Rattle.answers.specs.Answered.{Answered, value_of}
use Rattle.answers.specs.Change.{Change, sets, opens, closes, adds, takes, removes, puts_back, applied, Fits}
use Rattle.answers.specs.declared.edit.Side.TheVariants.{Answer, Override}
use Rattle.dict_meaning.specs.Accepted.{Accepted, IsAccepted}
use Rattle.dict_meaning.specs.Extension.{both_same, extends, is_kept}
use Rattle.dict_meaning.specs.Fits.{AnswersFit}
use Rattle.evaluation.specs.Results.{slot}
use Rattle.dict_meaning.specs.Slots.{slot_same, stands}
use Rattle.dict_meaning.specs.Touched.{same_entry}

-- the member came with the change: undoing takes it away
abbrev pub came : Change → Answered → ℕ → Bool
came (takes c closed) now m = nat_eq m (now.next - 1)
came (removes c n) now m = nat_eq m n
came _ now m = false

-- the member went with the change: undoing gives it back
abbrev pub went : Change → Answered → ℕ → Bool
went (adds c) now m = nat_eq m now.next
went (puts_back c place n e) now m = nat_eq m n
went _ now m = false

-- the slot has another entry: the one that was set, where its value differs, or that of the collection
abbrev pub differs : Change → Answered → Slot → Bool
differs (sets side s v) now t = slot_same s t && not (both_same value_same v (value_of side now s))
differs (opens c) now t = slot_same (slot c 0) t
differs (closes c) now t = slot_same (slot c 0) t
differs (adds c) now t = slot_same (slot c 0) t
differs (takes c closed) now t = slot_same (slot c 0) t
differs (removes c n) now t = slot_same (slot c 0) t
differs (puts_back c place n e) now t = slot_same (slot c 0) t

-- the change touches the slot by itself
abbrev pub is_touched_first : Change → Answered → Slot → Bool
is_touched_first undo now s = came undo now s.member || differs undo now s

-- the answers after the change extend those before
abbrev pub is_extended : Change → Answered → Bool
is_extended (sets Answer s v) now = is_kept value_same v (value_of Answer now s)
is_extended (sets Override s v) now = both_same value_same v (value_of Override now s)
is_extended (closes c) now = true
is_extended (takes c closed) now = closed
is_extended _ now = false

-- ---- laws, of answers that fit an accepted dictionary, as do those before the change

pub record IsUndone (d : Accepted) (undo : Change) (now : Answered) : Type 0 where
  pub can : Fits undo now
  pub before : AnswersFit d.tree (applied undo now)
  pub after : AnswersFit d.tree now

-- a slot that stands stood before, or it is of the member that came
abbrev pub CameTells : Type 0
CameTells = (d : Accepted) (undo : Change) (now : Answered) → IsUndone d undo now → (s : Slot) → IsTrue (stands d.tree now s) → not (stands d.tree (applied undo now) s) ≡ came undo now s.member

-- a slot that stood stands, or it is of the member that went
abbrev pub WentTells : Type 0
WentTells = (d : Accepted) (undo : Change) (now : Answered) → IsUndone d undo now → (s : Slot) → IsTrue (stands d.tree (applied undo now) s) → not (stands d.tree now s) ≡ went undo now s.member

-- a slot that stood and stands has the same entry, or it differs
abbrev pub DiffersTells : Type 0
DiffersTells =
    (names : List (List ℕ)) (d : Accepted) → IsAccepted names d → (undo : Change) (now : Answered) → IsUndone d undo now
    → (s : Slot) → IsTrue (stands d.tree (applied undo now) s) → IsTrue (stands d.tree now s) → not (same_entry (applied undo now) now s) ≡ differs undo now s

-- so a slot that stands is touched by the change itself, and not for what feeds it, where the test says so
abbrev pub FirstTells : Type 0
FirstTells =
    (names : List (List ℕ)) (d : Accepted) → IsAccepted names d → (undo : Change) (now : Answered) → IsUndone d undo now
    → (s : Slot) → IsTrue (stands d.tree now s) → (not (stands d.tree (applied undo now) s) || not (same_entry (applied undo now) now s)) ≡ is_touched_first undo now s

abbrev pub ExtendedTells : Type 0
ExtendedTells =
    (names : List (List ℕ)) (d : Accepted) → IsAccepted names d → (undo : Change) (now : Answered) → IsUndone d undo now
    → extends d.tree (applied undo now) now ≡ is_extended undo now
