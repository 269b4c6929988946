-- Values that are stated of the slots of a dictionary, and what an expression knows where those of lower rank have them.
use Rattle.std.proofs.Common.{◌≡◌, ℕ, suc, Bool, true, false, ◌&&◌, IsTrue, nat_lt, pos, List, [], ◌∷◌, map, Option, Some, None}
use Rattle.std.specs.Prelude.{count_by, is_some}
use Rattle.std.specs.List.{list_all}
use Rattle.std.specs.Option.{option_or}
use Rattle.fact_paths.specs.declared.use_path.UsePath.{UsePath}
use Rattle.fact_paths.specs.declared.use_path.UsePath.TheVariants.{Global, Sibling, Inner, Each, Through, SiblingThrough}
use Rattle.fact_values.specs.declared.slot.Slot.{Slot}
use Rattle.fact_values.specs.declared.value.Value.{Value}
use Rattle.fact_values.specs.declared.value.Value.TheVariants.{Boolean, Int, Members}
use Rattle.dict_source.specs.declared.operators.ReadOp.{ReadOp}
use Rattle.dict_source.specs.declared.operators.ReadOp.TheVariants as read_op
use Rattle.dict_source.specs.declared.targets.Targets.{Targets}
use Rattle.dict_source.specs.Tree.{Literal, Reading, Source, Use}
use Rattle.dict_source.specs.Targets.{targets}
use Rattle.dict_source.specs.Facts.{Fact}
use Rattle.three_state.specs.Results.{members_in, truth}
use Rattle.evaluation.specs.Sure.{KnownValues, is_sure, worth}
use Rattle.answers.specs.Answered.{Answered, value_of}
use Rattle.answers.specs.declared.edit.Side.TheVariants.{Override}
use Rattle.dict_meaning.specs.Accepted.{Accepted}
use Rattle.dict_meaning.specs.Plain.{body, given_value, rank}
use Rattle.dict_meaning.specs.Dependencies.{EvalPosition, outermost, source_env}
use Rattle.evaluation.specs.Results.{Results, slot}
use Rattle.dict_meaning.specs.Slots.{stands}

-- of a fact, by its number, its value at each member; or nothing
abbrev pub Stated : Type 0
Stated = ℕ → Option (ℕ → Value)

abbrev pub value_in : Option (ℕ → Value) → ℕ → Value
value_in None m = Boolean false
value_in (Some f) m = f m

-- ---- what is known of the slots of lower rank

-- a slot that stands, of a fact of rank below n of which something is stated
abbrev pub knows_slot : Accepted → Answered → Stated → ℕ → Option ℕ → ℕ → Bool
knows_slot d a stated n None m = false
knows_slot d a stated n (Some f) m = is_some (stated f) && (nat_lt (rank d f) n && stands d.tree a (slot f m))

abbrev pub stated_at : Stated → Option ℕ → ℕ → Value
stated_at stated None m = Boolean false
stated_at stated (Some f) m = value_in (stated f) m

abbrev pub is_members : Value → Bool
is_members (Members ms) = true
is_members _ = false

abbrev pub knows_list : Accepted → Answered → Stated → ℕ → Targets → Bool
knows_list d a stated n t = knows_slot d a stated n t.first 0 && is_members (stated_at stated t.first 0)

abbrev pub list_stated : Stated → Targets → List ℕ
list_stated stated t = members_in (stated_at stated t.first 0)

-- the member of which a Dependency reads its first target; there is none of a path through an item
abbrev pub member_read : EvalPosition → UsePath → Option ℕ
member_read at (Global n) = Some 0
member_read at (Sibling n) = Some at.own
member_read at (Inner n) = Some at.inner
member_read at (Each n m) = None
member_read at (Through n m) = None
member_read at (SiblingThrough n m) = None

abbrev pub knows_member : Accepted → Answered → Stated → ℕ → Targets → Option ℕ → Bool
knows_member d a stated n t None = false
knows_member d a stated n t (Some m) = knows_slot d a stated n t.first m

abbrev pub member_stated : Stated → Targets → Option ℕ → Value
member_stated stated t None = Boolean false
member_stated stated t (Some m) = stated_at stated t.first m

-- a Dependency, and a Count; of other reads nothing is known
abbrev pub knows_by : ReadOp → Accepted → Answered → Stated → ℕ → Targets → EvalPosition → UsePath → Bool
knows_by read_op.Dependency d a stated n t at path = knows_member d a stated n t (member_read at path)
knows_by read_op.Count d a stated n t at path = knows_slot d a stated n t.first 0 && list_all (λ m. knows_slot d a stated n t.second m) (list_stated stated t)
knows_by _ d a stated n t at path = false

abbrev pub value_by : ReadOp → Stated → Targets → EvalPosition → UsePath → Value
value_by read_op.Dependency stated t at path = member_stated stated t (member_read at path)
value_by read_op.Count stated t at path = Int (pos (count_by truth (map (λ m. stated_at stated t.second m) (list_stated stated t))))
value_by _ stated t at path = Boolean false

abbrev pub knows_path : Accepted → Answered → Stated → ℕ → ℕ → EvalPosition → ReadOp → Option UsePath → Bool
knows_path d a stated n fact at op None = false
knows_path d a stated n fact at op (Some path) = knows_by op d a stated n (targets d.tree fact at.base path) at path

abbrev pub value_of_path : Accepted → Stated → ℕ → EvalPosition → ReadOp → Option UsePath → Value
value_of_path d stated fact at op None = Boolean false
value_of_path d stated fact at op (Some path) = value_by op stated (targets d.tree fact at.base path) at path

abbrev pub knows_source : Accepted → Answered → Stated → ℕ → ℕ → EvalPosition → Option UsePath → Bool
knows_source d a stated n fact at None = false
knows_source d a stated n fact at (Some path) = knows_list d a stated n (targets d.tree fact at.base path)

abbrev pub list_of_path : Accepted → Stated → ℕ → EvalPosition → Option UsePath → List ℕ
list_of_path d stated fact at None = []
list_of_path d stated fact at (Some path) = list_stated stated (targets d.tree fact at.base path)

-- in an expression of this fact, over any map of results
abbrev pub known : Accepted → Answered → Stated → Results → ℕ → KnownValues Literal Reading Use EvalPosition
known d a stated results fact = record {
  env = source_env d.tree results fact;
  knows = λ at r. knows_path d a stated (rank d fact) fact at r.0 r.1.path;
  value = λ at r. value_of_path d stated fact at r.0 r.1.path;
  has_members = λ at u. knows_source d a stated (rank d fact) fact at u.path;
  members = λ at u. list_of_path d stated fact at u.path;
}

-- ---- what is stated is so

-- the expression is sure, and worth the value
abbrev pub IsWorth : Accepted → Answered → Stated → Slot → Value → Source → Type 0
IsWorth d a stated s v t = (results : Results) → IsTrue (is_sure (known d a stated results s.fact) (outermost s.member) t) × (worth (known d a stated results s.fact) (outermost s.member) t ≡ v)

-- the value is what a person gave, or what the expression is worth
abbrev pub HasBody : Accepted → Answered → Stated → Fact → Slot → Value → Option Source → Type 0
HasBody d a stated f s v None = given_value f.stated a s ≡ Some v
HasBody d a stated f s v (Some t) = (value_of Override a s ≡ None) × IsWorth d a stated s v t

-- at each member at which the fact has a slot
abbrev pub HasStated : Accepted → Answered → Stated → ℕ → Fact → Option (ℕ → Value) → Type 0
HasStated d a stated n f None = Unit {0}
HasStated d a stated n f (Some value) = (f.placeholder ≡ None) × ((m : ℕ) → IsTrue (stands d.tree a (slot n m)) → HasBody d a stated f (slot n m) (value m) (body f))

-- of facts that are counted from n: they have these values, where all that is stated is so of lower ones
abbrev pub AllHaveStated : Accepted → Answered → Stated → Stated → ℕ → List Fact → Type 0
AllHaveStated d a stated own n [] = Unit {0}
AllHaveStated d a stated own n (f ∷ fs) = HasStated d a stated n f (own n) × AllHaveStated d a stated own (suc n) fs

-- what is stated first, and of other facts what is stated besides
abbrev pub both_stated : Stated → Stated → Stated
both_stated first more n = option_or (first n) (more n)
