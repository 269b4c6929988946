-- Why a command is refused: the first refusal that holds.
use Rattle.std.specs.Prelude.{◌≡◌, ◌⊎◌, ℕ, ◌&&◌, Bool, true, false, not, List, [], ◌∷◌, ◌++◌, Option, Some, None, is_none, is_some, option_map, if◌then◌else◌, Result, Ok, Err}
use Rattle.std.specs.FinMap as map
use Rattle.fact_paths.specs.declared.slot_path.SlotPath.{SlotPath}
use Rattle.script_lines.specs.declared.command.Command.{Command}
use Rattle.script_lines.specs.declared.command.Command.TheVariants.{Set}
use Rattle.fact_values.specs.declared.slot.Slot.{Slot}
use Rattle.fact_values.specs.declared.value.Value.{Value}
use Rattle.answers.specs.Answered.{Answered, value_of}
use Rattle.answers.specs.declared.edit.Side.TheVariants.{Answer, Override}
use Rattle.dictionary.specs.AcceptedParts.{Named}
use Rattle.dictionary.specs.Checks.{has_check}
use Rattle.dict_meaning.specs.Fits.{is_answered_by, is_list, is_overridden_by}
use Rattle.dict_meaning.specs.Slots.{is_member}
use Rattle.graph_session.specs.Counts.{Counts}
use Rattle.graph_session.specs.Judging.{first_broken, first_failed, is_full, limits_of, value_spelled}
use Rattle.graph_session.specs.Naming.{fact_of, is_unknown, lacks_member, slot_of}
use Rattle.graph_session.specs.Rules.{Rules, tree_of}
use Rattle.graph_session.specs.declared.reply.Refusal.{Refusal}
use Rattle.graph_session.specs.declared.reply.Refusal.TheVariants.{UnknownFact, NoMember, WrongKind, BadValue, Limit, Check, Full, AlreadyOpen, NotAnswered, NoOverride, NothingToUndo, NothingToRedo, NoStamps, NoMemory}

-- ---- the first refusal

-- a refusal, where its test holds
abbrev pub when : Bool → Refusal → Option Refusal
when b r = if b then Some r else None

-- the first that holds
abbrev pub first_of : List (Option Refusal) → Option Refusal
first_of [] = None
first_of (None ∷ rest) = first_of rest
first_of (Some r ∷ rest) = Some r

-- the refusal is the defined one; want of memory says nothing
abbrev pub Refused : Refusal → Option Refusal → Type 0
Refused UnknownFact r = r ≡ Some UnknownFact
Refused NoMember r = r ≡ Some NoMember
Refused WrongKind r = r ≡ Some WrongKind
Refused BadValue r = r ≡ Some BadValue
Refused (Limit n) r = r ≡ Some (Limit n)
Refused (Check n) r = r ≡ Some (Check n)
Refused Full r = r ≡ Some Full
Refused AlreadyOpen r = r ≡ Some AlreadyOpen
Refused NotAnswered r = r ≡ Some NotAnswered
Refused NoOverride r = r ≡ Some NoOverride
Refused NothingToUndo r = r ≡ Some NothingToUndo
Refused NothingToRedo r = r ≡ Some NothingToRedo
Refused NoStamps r = r ≡ Some NoStamps
Refused NoMemory r = Unit {0}

-- what comes where nothing is refused, or the refusal
abbrev pub decided : {A : Type 0} → Option Refusal → A → Result A Refusal
decided None x = Ok x
decided (Some r) x = Err r

-- ---- of each kind of command, in their order

-- the checks of a table are those with which the dictionary was accepted, or no fact has a check
abbrev pub SameChecks : Rules → List Named → Type 0
SameChecks r table = (r.checks ≡ table) ⊎ (has_check r.accepted.tree ≡ false)

-- the command asks checks: `set` alone judges a value by them
abbrev pub asks_checks : Command → Bool
asks_checks (Set path text) = true
asks_checks _ = false

-- of one that names a slot, before the others
abbrev pub slot_refusals : Rules → Answered → SlotPath → List (Option Refusal)
slot_refusals r a path = when (is_unknown (tree_of r) path) UnknownFact ∷ when (lacks_member (tree_of r) a path) NoMember ∷ []

-- the slot that the path names, where it stands
abbrev pub slot_found : Rules → Answered → SlotPath → Result Slot Refusal
slot_found r a path = decided (first_of (slot_refusals r a path)) (slot_of (tree_of r) path)

-- of a value that is to be a fact's answer, by its limits, and then by its checks
abbrev pub limit_refusals : Rules → ℕ → Option Value → List (Option Refusal)
limit_refusals r fact value =
    option_map (λ n. Limit n) (first_broken (limits_of r.accepted.typed fact) value)
    ∷ option_map (λ n. Check n) (first_failed r.checks (limits_of r.accepted.typed fact) value)
    ∷ []

abbrev pub value_refusals : Rules → ℕ → List ℕ → List (Option Refusal)
value_refusals r fact text =
    let value = value_spelled (tree_of r) fact text in
    when (is_none value) BadValue ∷ limit_refusals r fact value

abbrev pub set_refusals : Rules → Answered → SlotPath → List ℕ → List (Option Refusal)
set_refusals r a path text =
    let fact = fact_of (tree_of r) path in
    slot_refusals r a path ++ (when (not (is_answered_by (tree_of r) fact)) WrongKind ∷ value_refusals r fact text)

abbrev pub clear_refusals : Rules → Answered → SlotPath → List (Option Refusal)
clear_refusals r a path =
    slot_refusals r a path ++ (
    when (not (is_answered_by (tree_of r) (fact_of (tree_of r) path))) WrongKind
    ∷ when (is_none (value_of Answer a (slot_of (tree_of r) path))) NotAnswered
    ∷ [])

abbrev pub open_refusals : Rules → Answered → SlotPath → List (Option Refusal)
open_refusals r a path =
    let fact = fact_of (tree_of r) path in
    slot_refusals r a path ++ (
    when (not (is_list (tree_of r) fact)) WrongKind
    ∷ when (is_some (map.get a.lists fact)) AlreadyOpen
    ∷ [])

abbrev pub add_refusals : Rules → Answered → SlotPath → List (Option Refusal)
add_refusals r a path =
    let fact = fact_of (tree_of r) path in
    slot_refusals r a path ++ (
    when (not (is_list (tree_of r) fact)) WrongKind
    ∷ when (is_full a fact) Full
    ∷ [])

abbrev pub remove_refusals : Rules → Answered → SlotPath → ℕ → List (Option Refusal)
remove_refusals r a path member =
    let fact = fact_of (tree_of r) path in
    slot_refusals r a path ++ (
    when (is_list (tree_of r) fact && not (is_member a fact member)) NoMember
    ∷ when (not (is_list (tree_of r) fact)) WrongKind
    ∷ [])

-- limits and checks don't bind overrides
abbrev pub override_refusals : Rules → Answered → SlotPath → List ℕ → List (Option Refusal)
override_refusals r a path text =
    let fact = fact_of (tree_of r) path in
    slot_refusals r a path ++ (
    when (not (is_overridden_by (tree_of r) fact)) WrongKind
    ∷ when (is_none (value_spelled (tree_of r) fact text)) BadValue
    ∷ [])

abbrev pub release_refusals : Rules → Answered → SlotPath → List (Option Refusal)
release_refusals r a path =
    slot_refusals r a path ++ (
    when (not (is_overridden_by (tree_of r) (fact_of (tree_of r) path))) WrongKind
    ∷ when (is_none (value_of Override a (slot_of (tree_of r) path))) NoOverride
    ∷ [])

abbrev pub is_empty : List Answered → Bool
is_empty [] = true
is_empty (a ∷ rest) = false

abbrev pub stamp_refusals : Rules → Answered → Option Counts → SlotPath → List (Option Refusal)
stamp_refusals r a counts path = slot_refusals r a path ++ (when (is_none counts) NoStamps ∷ [])
