-- Lists of lines of several parties, one after another, and what holds of them.
use Rattle.std.specs.Prelude.{◌≡◌, ℕ, true, List, [], ◌∷◌, ◌++◌, map, slice_get, Some, if◌then◌else◌, Result, Ok, Err}
use Rattle.std.specs.FinMap as map
use Rattle.fact_paths.specs.declared.slot_path.SlotPath.{SlotPath}
use Rattle.fact_values.specs.declared.slot.Slot.{Slot}
use Rattle.script_lines.specs.declared.command.Command.{Command}
use Rattle.answers.specs.Answered.{Answered, value_of}
use Rattle.answers.specs.declared.edit.Side.TheVariants.{Answer, Override}
use Rattle.dict_meaning.specs.Accepted.{Accepted, IsAccepted}
use Rattle.dictionary.specs.AcceptedParts.{names_of}
use Rattle.dict_meaning.specs.Fits.{AnswersFit}
use Rattle.dict_meaning.specs.Plain.{plain}
use Rattle.graph_session.specs.Naming.{slot_of}
use Rattle.graph_session.specs.Rules.{Rules, tree_of}
use Rattle.graph_session.specs.Run.{ended, replies}
use Rattle.graph_session.specs.SessionView.{begun}
use Rattle.graph_session.specs.declared.reply.Refusal.{Refusal}
use Rattle.graph_session.specs.declared.reply.Reply.{Reply}
use Rattle.graph_session.specs.Step.{is_change}
use Rattle.shared_desk.specs.Desk.{Desk, desk_begun, desk_step, edited}
use Rattle.shared_desk.specs.declared.refusal.DeskRefusal.{DeskRefusal}
use Rattle.shared_desk.specs.declared.refusal.DeskRefusal.TheVariants.{Session}

-- a party and its command
abbrev pub Line : Type 0
Line = ℕ × Command

abbrev pub desk_said : Result (Reply × Desk) DeskRefusal → Result Reply DeskRefusal
desk_said (Ok p) = Ok p.0
desk_said (Err r) = Err r

abbrev pub desk_next : Desk → Result (Reply × Desk) DeskRefusal → Desk
desk_next d (Ok p) = p.1
desk_next d (Err r) = d

-- the answer to each line, in order
abbrev pub desk_replies : Rules → Desk → List Line → List (Result Reply DeskRefusal)
desk_replies r d [] = []
desk_replies r d (l ∷ ls) = desk_said (desk_step r d l.0 l.1) ∷ desk_replies r (desk_next d (desk_step r d l.0 l.1)) ls

-- the desk after all of them
abbrev pub desk_ended : Rules → Desk → List Line → Desk
desk_ended r d [] = d
desk_ended r d (l ∷ ls) = desk_ended r (desk_next d (desk_step r d l.0 l.1)) ls

-- ---- the accepted lines

abbrev pub accepted_first : Result (Reply × Desk) DeskRefusal → Command → List Command → List Command
accepted_first (Ok p) c cs = c ∷ cs
accepted_first (Err r) c cs = cs

-- their commands, in order
abbrev pub accepted_of : Rules → Desk → List Line → List Command
accepted_of r d [] = []
accepted_of r d (l ∷ ls) = accepted_first (desk_step r d l.0 l.1) l.1 (accepted_of r (desk_next d (desk_step r d l.0 l.1)) ls)

abbrev pub agreed_first : Result (Reply × Desk) DeskRefusal → List (Result Reply Refusal) → List (Result Reply Refusal)
agreed_first (Ok p) rest = Ok p.0 ∷ rest
agreed_first (Err r) rest = rest

-- their replies
abbrev pub agreed_of : Rules → Desk → List Line → List (Result Reply Refusal)
agreed_of r d [] = []
agreed_of r d (l ∷ ls) = agreed_first (desk_step r d l.0 l.1) (agreed_of r (desk_next d (desk_step r d l.0 l.1)) ls)

-- ---- what a party saw

-- the answers that an accepted change leads to
abbrev pub led_to : Command → Result (Reply × Desk) DeskRefusal → List Answered
led_to c (Ok p) = if is_change c then p.1.session_state.timeline.now ∷ [] else []
led_to c (Err r) = []

-- those after each accepted change, in order
abbrev pub passed : Rules → Desk → List Line → List Answered
passed r d [] = []
passed r d (l ∷ ls) = led_to l.1 (desk_step r d l.0 l.1) ++ passed r (desk_next d (desk_step r d l.0 l.1)) ls

-- the slot has the same answer, override and list, and the same result
pub record SameAt (d : Accepted) (a b : Answered) (s : Slot) : Type 0 where
  pub answer : value_of Answer a s ≡ value_of Answer b s
  pub overriding : value_of Override a s ≡ value_of Override b s
  pub list : map.get a.lists s.fact ≡ map.get b.lists s.fact
  pub result : plain d a s ≡ plain d b s

-- ---- laws

-- the desk's session is a session over the accepted commands in order
abbrev pub SessionIsOverAccepted : Type 0
SessionIsOverAccepted = (r : Rules) (d : Desk) (ls : List Line) → (desk_ended r d ls).session_state ≡ ended r d.session_state (accepted_of r d ls)

-- which answers each of them in the same way
abbrev pub AcceptedAreAnswered : Type 0
AcceptedAreAnswered = (r : Rules) (d : Desk) (ls : List Line) → replies r d.session_state (accepted_of r d ls) ≡ agreed_of r d ls

-- a session's answer, as a desk gives it
abbrev pub of_session : Result Reply Refusal → Result Reply DeskRefusal
of_session (Ok reply) = Ok reply
of_session (Err refusal) = Err (Session refusal)

-- where all lines are one party's, each answer is that of a session alone: so none is Stale or NotYours
abbrev pub OnePartyIsAlone : Type 0
OnePartyIsAlone =
    (r : Rules) (a : Answered) (p : ℕ) (cs : List Command)
    → desk_replies r (desk_begun r a) (map (λ c. (p, c)) cs) ≡ map of_session (replies r (begun r.accepted a true) cs)

-- An accepted edit that names a slot, other than `add`, finds the slot's entry and result as they were at its party's last look at
-- the slot, or at the start where it never looked.
abbrev pub EditsFindWhatWasSeen : Type 0
EditsFindWhatWasSeen =
    (r : Rules) → IsAccepted (names_of r.checks) r.accepted → (a : Answered) → AnswersFit (tree_of r) a
    → (ls : List Line) (p : ℕ) (c : Command) (path : SlotPath) → edited c ≡ Some path
    → (said : Reply) (next : Desk) → desk_step r (desk_ended r (desk_begun r a) ls) p c ≡ Ok (said, next)
    → let d = desk_ended r (desk_begun r a) ls in
    let s = slot_of (tree_of r) path in
    (seen : Answered) × ((slice_get (a ∷ passed r (desk_begun r a) ls) (d.last_seen p s) ≡ Some seen) × SameAt r.accepted seen d.session_state.timeline.now s)
