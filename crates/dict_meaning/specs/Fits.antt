-- When answers fit a dictionary.
use Rattle.std.specs.Prelude.{◌≡◌, ℕ, Bool, true, false, not, ◌&&◌, IsSome, IsTrue, is_none, Option, Some, None}
use Rattle.std.specs.FinMap as map
use Rattle.fact_values.specs.declared.fact_type.FactType.{FactType}
use Rattle.fact_values.specs.declared.slot.Slot.{Slot}
use Rattle.fact_values.specs.declared.value.Value.{Value}
use Rattle.dict_source.specs.Facts.{Fact, Stated, scalar, enum_of, writable_list, list_of, item_of}
use Rattle.dict_source.specs.Dictionary.{Dictionary as Tree, is_collection}
use Rattle.dict_source.specs.Finding.{fact_at}
use Rattle.node_types.specs.ListSizes.{list_sizes}
use Rattle.node_types.specs.StatedTypes.{type_at}
use Rattle.evaluation.specs.Typed.{Domains, IsOfType}
use Rattle.answers.specs.Answered.{Answered, value_of}
use Rattle.answers.specs.WellFormed.{WellFormed, FromOne}
use Rattle.answers.specs.declared.edit.Side.{Side}
use Rattle.answers.specs.declared.edit.Side.TheVariants.{Answer, Override}
use Rattle.dict_meaning.specs.Slots.{is_member, stands}

-- ---- which facts may have what

abbrev pub is_writable : Fact → Bool
is_writable f = is_none f.main

-- a Writable collection
abbrev pub opens_of : Option Fact → Bool
opens_of None = false
opens_of (Some f) = is_collection f.stated

abbrev pub is_list : Tree → ℕ → Bool
is_list d fact = opens_of (fact_at d.facts fact)

-- a Writable fact of another type
abbrev pub answers_of : Option Fact → Bool
answers_of None = false
answers_of (Some f) = is_writable f && not (is_collection f.stated)

abbrev pub is_answered_by : Tree → ℕ → Bool
is_answered_by d fact = answers_of (fact_at d.facts fact)

-- it names members
abbrev pub names_members : Stated → Bool
names_members (scalar t) = false
names_members (enum_of n) = false
names_members writable_list = true
names_members (list_of u) = true
names_members (item_of u) = true

-- a Derived fact that is no Collection and no Item
abbrev pub overrides_of : Option Fact → Bool
overrides_of None = false
overrides_of (Some f) = not (is_writable f) && not (names_members f.stated)

abbrev pub is_overridden_by : Tree → ℕ → Bool
is_overridden_by d fact = overrides_of (fact_at d.facts fact)

-- the slots of this fact may have an answer, or an override
abbrev pub takes : Side → Tree → ℕ → Bool
takes Answer d fact = is_answered_by d fact
takes Override d fact = is_overridden_by d fact

-- ---- values

-- the options of each list, and the members of each collection
abbrev pub domains : Tree → Answered → Domains
domains d a = record {
  options = list_sizes d.enums;
  has_member = is_member a;
}

-- the value is of the fact's type
abbrev pub IsOfFact : Tree → Answered → ℕ → Value → Type 0
IsOfFact d a fact v = (t : FactType) × (type_at d fact ≡ Some t) × IsOfType (domains d a) v t

-- ---- answers

-- Answers that are true of all, whose lists are those of Writable collections, and whose values and overrides stand in slots
-- that stand and may have them, and are of the right types.
pub record AnswersFit (d : Tree) (a : Answered) : Type 0 where
  pub well : WellFormed a
  pub from_one : FromOne a
  pub lists : (c : ℕ) → IsSome (map.get a.lists c) → IsTrue (is_list d c)
  pub placed : (side : Side) (s : Slot) → IsSome (value_of side a s) → IsTrue (stands d a s && takes side d s.fact)
  pub typed : (side : Side) (s : Slot) (v : Value) → value_of side a s ≡ Some v → IsOfFact d a s.fact v
