-- Several parties at one session: what a line of a party may do, and what is recorded of each party.
use Rattle.std.specs.Prelude.{◌≡◌, ℕ, zero, suc, ◌-◌, ◌&&◌, ◌||◌, Bool, true, false, not, nat_eq, nat_le, List, [], ◌∷◌, ◌++◌, length, slice_get, take, Option, Some, None, option_map, if◌then◌else◌, Result, refl}
use Rattle.fact_paths.specs.declared.slot_path.SlotPath.{SlotPath}
use Rattle.fact_paths.specs.declared.slot_path.SlotPath.TheVariants.{Global}
use Rattle.fact_values.specs.declared.slot.Slot.{Slot}
use Rattle.script_lines.specs.declared.command.Command.{Command}
use Rattle.script_lines.specs.declared.command.Command.TheVariants.{Set, Clear, OpenList, Add, Remove, Override, Release, Undo, Redo, Get, Final, Stamp}
use Rattle.dict_source.specs.Dictionary.{Dictionary as Tree}
use Rattle.answers.specs.Answered.{Answered}
use Rattle.dict_meaning.specs.Accepted.{Accepted}
use Rattle.dict_meaning.specs.Fits.{is_list}
use Rattle.dict_meaning.specs.Slots.{is_member, slot_same, stands}
use Rattle.dict_meaning.specs.Touched.{touches}
use Rattle.graph_session.specs.Counts.{stamp_of}
use Rattle.graph_session.specs.Naming.{fact_of, slot_of}
use Rattle.graph_session.specs.Refusals.{first_of as first_session, slot_refusals, when}
use Rattle.graph_session.specs.Rules.{Rules, tree_of}
use Rattle.graph_session.specs.SessionView.{SessionState, begun}
use Rattle.graph_session.specs.Step.{is_change, moved_by, refusal, reply, timeline_by}
use Rattle.graph_session.specs.declared.reply.Refusal.{Refusal}
use Rattle.graph_session.specs.declared.reply.Refusal.TheVariants.{NoMember}
use Rattle.graph_session.specs.declared.reply.Reply.{Reply}
use Rattle.shared_desk.specs.Refusals.{decided, first_of}
use Rattle.shared_desk.specs.declared.refusal.DeskRefusal.{DeskRefusal}
use Rattle.shared_desk.specs.declared.refusal.DeskRefusal.TheVariants.{Session, Stale, NotYours}

-- The state of the session; the party of each change, in their order; the party of each entry of the list of answers after the
-- first, in its order: the one whose change appended it; and of each party and slot how many changes had been made when the party
-- last looked at the slot, 0 where it never did.
pub record Desk : Type 0 where
  pub session_state : SessionState
  pub changers : List ℕ
  pub entries : List ℕ
  pub last_seen : ℕ → Slot → ℕ

-- nobody has done anything
abbrev pub opened : SessionState → Desk
opened c = record { session_state = c; changers = []; entries = []; last_seen = λ p s. 0 }

-- over these answers, with stamps
abbrev pub desk_begun : Rules → Answered → Desk
desk_begun r a = opened (begun r.accepted a true)

-- ---- commands

-- the slot whose edit is refused where it is stale; `add` never is
abbrev pub edited : Command → Option SlotPath
edited (Set path text) = Some path
edited (Clear path) = Some path
edited (OpenList path) = Some path
edited (Remove path member) = Some path
edited (Override path text) = Some path
edited (Release path) = Some path
edited _ = None

-- the slot that the answer shows; `missing` shows none
abbrev pub shown : Command → Option SlotPath
shown (Get path) = Some path
shown (Final path) = Some path
shown (Stamp path) = Some path
shown _ = None

-- what lies after the place is cut, and an entry appended
abbrev pub appends : Command → Bool
appends (Set path text) = true
appends (Clear path) = true
appends (OpenList path) = true
appends (Add path) = true
appends (Remove path member) = true
appends (Override path text) = true
appends (Release path) = true
appends _ = false

-- ---- stale slots

-- the party of the change of this number, from 1
abbrev pub changer : List ℕ → ℕ → Option ℕ
changer changers n = slice_get changers (n - 1)

abbrev pub is_party : ℕ → Option ℕ → Bool
is_party p None = false
is_party p (Some q) = nat_eq q p

-- the last change that touched the slot, unless it came no later than the look, or is the party's own
abbrev pub stale_since : ℕ → ℕ → ℕ → Option ℕ → Option ℕ
stale_since p look last by = if nat_le last look || is_party p by then None else Some last

-- A party looks at each slot that its own change touches. So where another party's change touched the slot after this party's last
-- look, no change of its own did so later: the last of those changes is the last of all that touched the slot.
abbrev pub stale : Desk → ℕ → Slot → Option ℕ
stale d p s = stale_since p (d.last_seen p s) (stamp_of d.session_state.counts s) (changer d.changers (stamp_of d.session_state.counts s))

-- of the slot that an edit names
abbrev pub stale_named : Tree → Desk → ℕ → Option SlotPath → Option ℕ
stale_named t d p None = None
stale_named t d p (Some path) = stale d p (slot_of t path)

-- ---- what isn't a party's

abbrev pub other : ℕ → Option ℕ → Option ℕ
other p None = None
other p (Some q) = if nat_eq q p then None else Some q

-- the party of the entry at a place: none of the first
abbrev pub entrant : List ℕ → ℕ → Option ℕ
entrant entries zero = None
entrant entries (suc n) = slice_get entries n

-- the place in the list of answers, from 0
abbrev pub place_of : SessionState → ℕ
place_of c = length c.timeline.before

-- the other party whose entry would be left by `undo`, or gone to by `redo`
abbrev pub owner : Desk → ℕ → Command → Option ℕ
owner d p Undo = other p (entrant d.entries (place_of d.session_state))
owner d p Redo = other p (entrant d.entries (suc (place_of d.session_state)))
owner d p _ = None

-- ---- refusals

-- of an edit, those of the session that come before: the slot or the member isn't there
abbrev pub absent_refusals : Rules → Answered → Command → List (Option Refusal)
absent_refusals r a (Set path text) = slot_refusals r a path
absent_refusals r a (Clear path) = slot_refusals r a path
absent_refusals r a (OpenList path) = slot_refusals r a path
absent_refusals r a (Remove path member) =
    let fact = fact_of (tree_of r) path in
    slot_refusals r a path ++ (when (is_list (tree_of r) fact && not (is_member a fact member)) NoMember ∷ [])
absent_refusals r a (Override path text) = slot_refusals r a path
absent_refusals r a (Release path) = slot_refusals r a path
absent_refusals r a _ = []

abbrev pub first_early : List (Option Refusal) → Option ℕ → Option ℕ → Option DeskRefusal
first_early absent last q = first_of (option_map Session (first_session absent) ∷ option_map Stale last ∷ option_map NotYours q ∷ [])

-- those that come before the others of the session
abbrev pub early : Rules → Desk → ℕ → Command → Option DeskRefusal
early r d p c = first_early (absent_refusals r d.session_state.timeline.now c) (stale_named (tree_of r) d p (edited c)) (owner d p c)

-- the first that holds: once none of the early ones does, the session's
abbrev pub desk_refusal : Rules → Desk → ℕ → Command → Option DeskRefusal
desk_refusal r d p c = first_of (early r d p c ∷ option_map Session (refusal r d.session_state c) ∷ [])

-- ---- what an accepted line leaves

abbrev pub changers_after : List ℕ → ℕ → Command → List ℕ
changers_after changers p c = if is_change c then changers ++ p ∷ [] else changers

abbrev pub entries_after : List ℕ → ℕ → ℕ → Command → List ℕ
entries_after entries place p c = if appends c then take place entries ++ p ∷ [] else entries

-- a party looks at the slots of a test
abbrev pub looked : (ℕ → Slot → ℕ) → ℕ → (Slot → Bool) → ℕ → ℕ → Slot → ℕ
looked last_seen p seen number q s = if nat_eq q p && seen s then number else last_seen q s

-- the slot that the answer shows
abbrev pub is_shown : Tree → Option SlotPath → Slot → Bool
is_shown t None s = false
is_shown t (Some path) s = slot_same (slot_of t path) s

-- the change from answers to answers touches the slot, which stands after it
abbrev pub is_touched : Accepted → Answered → Answered → Slot → Bool
is_touched d a b s = stands d.tree b s && touches d a b s

-- a party looks at what it is shown, and at what its own change touches, as the change leaves it
abbrev pub is_seen : Rules → Answered → Answered → Command → Slot → Bool
is_seen r a b c s = if is_change c then is_touched r.accepted a b s else is_shown (tree_of r) (shown c) s

-- where the session's state leads
abbrev pub session_state_after : Rules → SessionState → Command → SessionState
session_state_after r s c = moved_by r s (timeline_by (tree_of r) s.timeline c)

abbrev pub desk_after : Rules → Desk → ℕ → Command → Desk
desk_after r d p c =
    let after = session_state_after r d.session_state c in
    record {
      session_state = after;
      changers = changers_after d.changers p c;
      entries = entries_after d.entries (place_of d.session_state) p c;
      last_seen = looked d.last_seen p (is_seen r d.session_state.timeline.now after.timeline.now c) after.changes;
    }

-- ---- the step

-- the reply to a line of a party, and the desk after it; or the refusal
abbrev pub desk_step : Rules → Desk → ℕ → Command → Result (Reply × Desk) DeskRefusal
desk_step r d p c = decided (desk_refusal r d p c) (reply r d.session_state c, desk_after r d p c)

-- ---- worked examples

-- party 2 looked when 3 changes had been made
stale_since-a_later_change : stale_since 2 3 4 (Some 1) ≡ Some 4
stale_since-a_later_change = refl

stale_since-an_earlier_change : stale_since 2 3 3 (Some 1) ≡ None
stale_since-an_earlier_change = refl

stale_since-a_change_of_its_own : stale_since 2 3 4 (Some 2) ≡ None
stale_since-a_change_of_its_own = refl

-- parties 1, 2 and 1 appended the entries, and the place is behind the second
owner-back : other 1 (entrant (1 ∷ 2 ∷ 1 ∷ []) 2) ≡ Some 2
owner-back = refl

owner-forth : other 1 (entrant (1 ∷ 2 ∷ 1 ∷ []) 3) ≡ None
owner-forth = refl

entries_after-an_append : entries_after (1 ∷ 2 ∷ 1 ∷ []) 2 3 (Add (Global [])) ≡ 1 ∷ 2 ∷ 3 ∷ []
entries_after-an_append = refl

entries_after-a_step : entries_after (1 ∷ 2 ∷ 1 ∷ []) 2 3 Undo ≡ 1 ∷ 2 ∷ 1 ∷ []
entries_after-a_step = refl
