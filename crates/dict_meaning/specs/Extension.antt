-- When answers extend others.
use Rattle.std.specs.Prelude.{◌≡◌, ◌↔◌, ℕ, Bool, true, false, ◌&&◌, IsTrue, List, Option, Some, None}
use Rattle.std.specs.List.{list_all}
use Rattle.std.specs.FinMap as map
use Rattle.std.specs.Str.{bytes_eq}
use Rattle.fact_values.specs.declared.slot.Slot.{Slot}
use Rattle.fact_values.specs.declared.value.Value.{Value}
use Rattle.three_state.specs.Equality.{value_same}
use Rattle.dict_source.specs.Dictionary.{Dictionary as Tree}
use Rattle.answers.specs.Answered.{Answered, value_of}
use Rattle.answers.specs.declared.edit.Side.TheVariants.{Answer, Override}
use Rattle.dict_meaning.specs.Accepted.{Accepted, IsAccepted}
use Rattle.dict_meaning.specs.Fits.{AnswersFit}
use Rattle.dict_meaning.specs.Slots.{standing}

-- The answers b keep what the answers a give: overrides, the values of answered slots, and the members of open collections in
-- their order. Further answers may be there, and further collections open.
pub record Extends (a b : Answered) : Type 0 where
  pub overrides : (s : Slot) → value_of Override b s ≡ value_of Override a s
  pub values : (s : Slot) (v : Value) → value_of Answer a s ≡ Some v → value_of Answer b s ≡ Some v
  pub lists : (c : ℕ) (ms : List ℕ) → map.get a.lists c ≡ Some ms → map.get b.lists c ≡ Some ms

-- the same, where both fit the dictionary
pub record IsExtension (d : Tree) (a b : Answered) : Type 0 where
  pub before : AnswersFit d a
  pub after : AnswersFit d b
  pub extends : Extends a b

-- ---- the same as a test, over the slots that stand

-- both are there and equal, or neither is there
abbrev pub both_same : {A : Type 0} → (A → A → Bool) → Option A → Option A → Bool
both_same same None None = true
both_same same (Some x) (Some y) = same x y
both_same same None (Some y) = false
both_same same (Some x) None = false

-- where the first is there, the second is equal
abbrev pub is_kept : {A : Type 0} → (A → A → Bool) → Option A → Option A → Bool
is_kept same None y = true
is_kept same (Some x) (Some y) = same x y
is_kept same (Some x) None = false

abbrev pub same_override : Answered → Answered → Slot → Bool
same_override a b s = both_same value_same (value_of Override a s) (value_of Override b s)

abbrev pub keeps_given : Answered → Answered → Slot → Bool
keeps_given a b s = is_kept value_same (value_of Answer a s) (value_of Answer b s) && is_kept bytes_eq (map.get a.lists s.fact) (map.get b.lists s.fact)

unfoldable pub extends : Tree → Answered → Answered → Bool
extends d a b = list_all (same_override a b) (standing d a) && list_all (same_override a b) (standing d b) && list_all (keeps_given a b) (standing d a)

-- ---- a law

-- of answers that fit an accepted dictionary, where each open collection stands once, the test tells
abbrev pub TestTellsExtends : Type 0
TestTellsExtends =
    (names : List (List ℕ)) (d : Accepted) → IsAccepted names d → (a b : Answered) → AnswersFit d.tree a → AnswersFit d.tree b
    → IsTrue (extends d.tree a b) ↔ Extends a b
