-- A line that sets no answer asks no check. One that asks no relation is answered alike by the standard ones and by none.
use Rattle.std.proofs.Common.{◌≡◌, ℕ, zero, suc, ◌-◌, ◌==◌, ◌&&◌, ◌||◌, Bool, true, false, not, IsTrue, nat_le, if◌then◌else◌, ◌≤◌, List, [], ◌∷◌, length, take, slice_get, slice_index, Option, Some, None, Result, Ok, Err, inl, inr, refl, sym, ap, subst, ◌∙◌, arith}
use Rattle.common_lemmas.proofs.Bools.{not_true}
use Rattle.script_lines.specs.Commands.{SpellsCommand, command_text, without_return}
use Rattle.script_lines.specs.Lines.{ScriptLine, whole, long}
use Rattle.script_lines.specs.Parsing.{Heard, SaysExactly, nothing, bad_line, command, heard_in}
use Rattle.script_lines.proofs.CommandLaws.{heard_exactly}
use Rattle.script_lines.specs.declared.command.Command.{Command}
use Rattle.script_lines.specs.declared.command.Command.TheVariants as commands
use Rattle.dictionary.specs.AcceptedParts.{Named}
use Rattle.fact_watch.specs.Watching.{Watch}
use Rattle.graph_session.specs.Refusals.{asks_checks}
use Rattle.graph_session.specs.Rules.{Rules}
use Rattle.graph_session.specs.SessionView.{SessionState}
use Rattle.graph_session.specs.Step as session
use Rattle.graph_session.specs.declared.reply.Refusal.{Refusal}
use Rattle.graph_session.specs.declared.reply.Reply.{Reply}
use Rattle.session_lines.specs.Firing.{name_at}
use Rattle.session_lines.specs.Stepping.{LineState, State, Step, open_at, step, step_answered, step_command, step_heard}
use Rattle.session_lines.specs.Tables.{heard_asks_checks, standard_relations}
use Rattle.fact_graph_c.specs.Answering.{line_given}
use Rattle.fact_graph_c.specs.Consulting.{Serves, is_byte, may_set, may_watch}
use Rattle.fact_graph_c.proofs.RoomLaws.{standard_short}

-- ---- lines that put no watch and take none out

abbrev pub LeavesWatches : Command → Type 0
LeavesWatches (commands.Watch name path) = ⊥
LeavesWatches (commands.Unwatch name path) = ⊥
LeavesWatches _ = Unit {0}

-- what stands in the front of a list stands there in the list
in_front : (n : ℕ) (xs : List ℕ) (k x : ℕ) → slice_get (take n xs) k ≡ Some x → slice_get xs k ≡ Some x
in_front zero xs k x e = absurd cc
in_front (suc n) [] k x e = absurd cc
in_front (suc n) (y ∷ ys) zero x e = e
in_front (suc n) (y ∷ ys) (suc k) x e = in_front n ys k x e

-- a byte of what a line says stands in the line, too
byte_stands : (line : List ℕ) (k x : ℕ) → slice_get (without_return line) k ≡ Some x → slice_get line k ≡ Some x
byte_stands line k x there = by (slice_index line (length line - 1) == 13) there
  where
    by : (b : Bool) → slice_get (if b then take (length line - 1) line else line) k ≡ Some x → slice_get line k ≡ Some x
    by true e = in_front (length line - 1) line k x e
    by false e = e

-- so does a `w`
w_stands : (line : List ℕ) (k : ℕ) → slice_get (without_return line) k ≡ Some 119 → is_byte 119 (slice_get line k) ≡ true
w_stands line k there = ap (is_byte 119) (byte_stands line k 119 there)

first_true : (a b : Bool) → a ≡ true → a || b ≡ false → ⊥
first_true true b e none = absurd cc
first_true false b e none = absurd cc

second_true : (a b : Bool) → b ≡ true → a || b ≡ false → ⊥
second_true a true e none = absurd (let no : true ≡ false = by a none in cc)
  where
    by : (c : Bool) → c || true ≡ false → true ≡ false
    by true n = n
    by false n = n
second_true a false e none = absurd cc

pub leaves_watches : (line : List ℕ) → may_watch line ≡ false → (asked : Command) → heard_in line ≡ command asked → LeavesWatches asked
leaves_watches line none asked heard = by asked (subst (SaysExactly line) heard (heard_exactly line))
  where
    by : (c : Command) → SpellsCommand line c → LeavesWatches c
    by (commands.Watch name path) spelled = first_true (is_byte 119 (slice_get line 0)) (is_byte 119 (slice_get line 2)) (w_stands line 0 (ap (λ (t : List ℕ). slice_get t 0) spelled.text)) none
    by (commands.Unwatch name path) spelled = second_true (is_byte 119 (slice_get line 0)) (is_byte 119 (slice_get line 2)) (w_stands line 2 (ap (λ (t : List ℕ). slice_get t 2) spelled.text)) none
    by _ spelled = tt

-- ---- lines that ask no check

sets : (line : List ℕ) → may_set line ≡ false → (asked : Command) → SpellsCommand line asked → asks_checks asked ≡ false
sets line none (commands.Set path text) spelled =
    let s : slice_get line 0 ≡ Some 115 = byte_stands line 0 115 (ap (λ (t : List ℕ). slice_get t 0) spelled.text) in
    let e : slice_get line 1 ≡ Some 101 = byte_stands line 1 101 (ap (λ (t : List ℕ). slice_get t 1) spelled.text) in
    let may : may_set line ≡ true = λ i. is_byte 115 (s i) && is_byte 101 (e i) in
    absurd (let no : true ≡ false = sym may ∙ none in cc)
sets line none _ spelled = refl

pub asks_no_check : (line : List ℕ) → IsTrue (not (may_set line)) → heard_asks_checks (heard_in line) ≡ false
asks_no_check line none = by (heard_in line) (heard_exactly line)
  where
    by : (h : Heard) → SaysExactly line h → heard_asks_checks h ≡ false
    by nothing says = refl
    by bad_line says = refl
    by (command asked) says = sets line (not_true (may_set line) none) asked says

-- ---- their steps, where nothing is watched

-- the same place, by the standard relations
abbrev pub by_standard : State → State
by_standard st = record { standing = record st.standing { relations = standard_relations }; over = st.over }

-- the lines are the same, and so are the places, but for the relations
abbrev pub Alike : Step → Step → Type 0
Alike made other = (made.lines ≡ other.lines) × (made.state ≡ by_standard other.state)

abbrev pub unwatched : SessionState → List Named → LineState
unwatched c relations = record { session_state = c; relations = relations; watched = [] }

module _ (r : Rules) (c : SessionState) where
  answered : (asked : Command) (o : Result (Reply × SessionState) Refusal) → Alike (step_answered r (unwatched c standard_relations) asked o) (step_answered r (unwatched c []) asked o)
  answered asked (Ok answer) = (refl, refl)
  answered asked (Err refusal) = (refl, refl)

  commanded : (asked : Command) → LeavesWatches asked → Alike (step_command r (unwatched c standard_relations) asked) (step_command r (unwatched c []) asked)
  commanded commands.Quit none = (refl, refl)
  commanded (commands.Missing path) none = (refl, refl)
  commanded (commands.Watch name path) none = absurd none
  commanded (commands.Unwatch name path) none = absurd none
  commanded asked none = answered asked (session.step r c asked)

  heard : (h : Heard) → ((asked : Command) → h ≡ command asked → LeavesWatches asked) → Alike (step_heard r (unwatched c standard_relations) h) (step_heard r (unwatched c []) h)
  heard nothing none = (refl, refl)
  heard bad_line none = (refl, refl)
  heard (command asked) none = commanded asked (none asked refl)

  pub alike : (line : List ℕ) → may_watch line ≡ false → Alike (step r (open_at (unwatched c standard_relations)) (line_given line)) (step r (open_at (unwatched c [])) (line_given line))
  alike line none = by (nat_le (length line) 4096)
    where
      by : (b : Bool) → Alike (step r (open_at (unwatched c standard_relations)) (if b then whole line else long)) (step r (open_at (unwatched c [])) (if b then whole line else long))
      by true = heard (heard_in line) (leaves_watches line none)
      by false = (refl, refl)

-- ---- tables

-- nothing is watched where the number of watches is 0
pub none_watched : (watched : List Watch) → length watched ≡ 0 → watched ≡ []
none_watched [] none = refl
none_watched (p ∷ ps) none = absurd cc

-- the names of relations that serve a line are short
pub short_names : (relations : List Named) (watched : List Watch) (line : List ℕ) → Serves relations watched line → (place : ℕ) → length (name_at relations place) ≤ 9
short_names relations watched line (inl standard) place = subst (λ (ns : List Named). length (name_at ns place) ≤ 9) (sym standard) (standard_short place)
short_names relations watched line (inr none) place = subst (λ (ns : List Named). length (name_at ns place) ≤ 9) (sym none.0) (omega arith)
