-- What is kept of a desk.
use Rattle.std.specs.Prelude.{◌≡◌, ℕ, ◌≤◌, ◌||◌, nat_le, IsTrue, List, length, Some, refl}
use Rattle.std.specs.Coded.{Coded, code_by, coded×, coded_ℕ, coded_list}
use Rattle.fact_values.specs.declared.slot.Slot.{Slot}
use Rattle.script_lines.specs.declared.command.Command.{Command}
use Rattle.graph_session.specs.Counts.{Counts, stamp_of}
use Rattle.graph_session.specs.Rules.{Rules, rules, tree_of}
use Rattle.graph_session.specs.SessionView.{SessionView, coded_view, session_state}
use Rattle.shared_desk.specs.Desk.{Desk, changer, changers_after, entries_after, is_party, is_shown, looked, place_of, shown}
use Rattle.shared_desk.specs.LastSeen.{Key, look_in}

-- the session, the party of each change and of each entry after the first, and the looks at slots that were asked for
pub record DeskView : Type 0 where
  pub session : SessionView
  pub changers : List ℕ
  pub entries : List ℕ
  pub asked : List (Key × ℕ)

abbrev pub rules_of : DeskView → Rules
rules_of v = rules v.session.dict

-- the same as a desk at which nobody looks at what a change of their own touches
abbrev pub kept_desk : DeskView → Desk
kept_desk v = record { session_state = session_state v.session; changers = v.changers; entries = v.entries; last_seen = look_in v.asked }

-- ---- the desk that it stands for

-- What lines lead to. Changes are numbered from 1, and nothing is recorded of a change that wasn't made; a party has looked at each slot
-- that its own change was the last to touch.
pub record IsOrderly (d : Desk) : Type 0 where
  pub counted : (k : Counts) × (d.session_state.counts ≡ Some k)
  pub numbered : length d.changers ≡ d.session_state.changes
  pub stamps : (s : Slot) → stamp_of d.session_state.counts s ≤ d.session_state.changes
  pub last_seen : (p : ℕ) (s : Slot) → d.last_seen p s ≤ d.session_state.changes
  pub own : (p : ℕ) (s : Slot) → IsTrue (is_party p (changer d.changers (stamp_of d.session_state.counts s))) → stamp_of d.session_state.counts s ≤ d.last_seen p s

-- What is kept tells the same. A slot was last touched no later than the party's last look at it exactly where that is so of the
-- last look that is kept, or the change that touched it is the party's own.
pub record StandsFor (v : DeskView) (d : Desk) : Type 0 where
  pub orderly : IsOrderly d
  pub session_state : session_state v.session ≡ d.session_state
  pub changers : v.changers ≡ d.changers
  pub entries : v.entries ≡ d.entries
  pub kept : (p : ℕ) (s : Slot) → look_in v.asked p s ≤ d.session_state.changes
  pub last_seen : (p : ℕ) (s : Slot) → nat_le (stamp_of d.session_state.counts s) (d.last_seen p s)
      ≡ (nat_le (stamp_of d.session_state.counts s) (look_in v.asked p s) || is_party p (changer d.changers (stamp_of d.session_state.counts s)))

-- what is kept after an accepted line of a party
pub record Keeps (v : DeskView) (p : ℕ) (c : Command) (w : DeskView) : Type 0 where
  pub changers : w.changers ≡ changers_after v.changers p c
  pub entries : w.entries ≡ entries_after v.entries (place_of (session_state v.session)) p c
  pub last_seen : (q : ℕ) (s : Slot) → look_in w.asked q s ≡ looked (look_in v.asked) p (is_shown (tree_of (rules_of v)) (shown c)) v.session.changes q s

-- ---- codes

abbrev pub coded_key : Coded Key
coded_key = coded× coded_ℕ (coded× coded_ℕ coded_ℕ)

abbrev pub coded_desk : Coded DeskView
coded_desk = code_by ((SessionView × List ℕ) × (List ℕ × List (Key × ℕ))) (coded× (coded× coded_view (coded_list coded_ℕ)) (coded× (coded_list coded_ℕ) (coded_list (coded× coded_key coded_ℕ))))
    (λ v. ((v.session, v.changers), (v.entries, v.asked))) (λ p. record { session = p.0.0; changers = p.0.1; entries = p.1.0; asked = p.1.1 }) (λ _. refl)
