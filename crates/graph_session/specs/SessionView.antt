-- What contracts see of a session.
use Rattle.std.specs.Prelude.{ℕ, ◌+◌, Bool, List, [], Option, Some, None, option_map, if◌then◌else◌, refl}
use Rattle.std.specs.FinMap as map
use Rattle.std.specs.Coded.{Coded, code_by, coded×, coded_ℕ, coded_list, coded_option}
use Rattle.fact_values.specs.declared.slot.Slot.{Slot}
use Rattle.fact_values.specs.declared.value.Value.{Value}
use Rattle.fact_values.specs.contracts.value.Value as value
use Rattle.answers.specs.Finite.{Numbered}
use Rattle.answers.specs.Answered.{Answered, Entry}
use Rattle.session_undo.specs.Timeline.{Timeline, timeline_forgotten}
use Rattle.dict_meaning.specs.Accepted.{Accepted}
use Rattle.dictionary.specs.AcceptedParts.{AcceptedParts, accepted}
use Rattle.dictionary.specs.contracts.dictionary.Dictionary as dictionary
use Rattle.graph_session.specs.Counts.{Counts, next_counts, no_counts}

-- the dictionary; the answers at the place, and those before and after it; how many changes were made; and the counts, where
-- the engine keeps them
pub record SessionView : Type 0 where
  pub dict : AcceptedParts
  pub timeline : Timeline
  pub changes : ℕ
  pub counts : Option Counts

-- the same without the dictionary
pub record SessionState : Type 0 where
  pub timeline : Timeline
  pub changes : ℕ
  pub counts : Option Counts

abbrev pub session_state : SessionView → SessionState
session_state s = record { timeline = s.timeline; changes = s.changes; counts = s.counts }

-- over these answers, before any change
abbrev pub begun : Accepted → Answered → Bool → SessionState
begun d a offered = record {
  timeline = record { before = []; now = a; after = [] };
  changes = 0;
  counts = if offered then Some (no_counts d a) else None;
}

-- after one more change, to this place
abbrev pub moved : Accepted → SessionState → Timeline → SessionState
moved d c t = record {
  timeline = t;
  changes = c.changes + 1;
  counts = option_map (next_counts d c.timeline.now t.now (c.changes + 1)) c.counts;
}

-- the newest changes can be undone, so many at most; all else is as before
abbrev pub bounded : ℕ → SessionState → SessionState
bounded most c = record { timeline = timeline_forgotten most c.timeline; changes = c.changes; counts = c.counts }

abbrev pub view_at : AcceptedParts → SessionState → SessionView
view_at k c = record { dict = k; timeline = c.timeline; changes = c.changes; counts = c.counts }

abbrev pub start_at : AcceptedParts → Answered → Bool → SessionView
start_at k a offered = view_at k (begun (accepted k) a offered)

abbrev pub moved_to : SessionView → Timeline → SessionView
moved_to s t = view_at s.dict (moved (accepted s.dict) (session_state s) t)

abbrev pub bounded_to : ℕ → SessionView → SessionView
bounded_to most s = view_at s.dict (bounded most (session_state s))

-- ---- codes

abbrev pub coded_values : Coded (Numbered Value)
coded_values = map.code coded_ℕ value.the_row.coded

abbrev pub coded_entry : Coded Entry
coded_entry = code_by (Numbered Value × Numbered Value) (coded× coded_values coded_values) (λ e. (e.values, e.overrides)) (λ p. record { values = p.0; overrides = p.1 }) (λ _. refl)

abbrev pub coded_answered : Coded Answered
coded_answered = code_by ((ℕ × Numbered (List ℕ)) × (Entry × Numbered Entry))
    (coded× (coded× coded_ℕ (map.code coded_ℕ (coded_list coded_ℕ))) (coded× coded_entry (map.code coded_ℕ coded_entry)))
    (λ a. ((a.next, a.lists), (a.globals, a.members))) (λ p. record { next = p.0.0; lists = p.0.1; globals = p.1.0; members = p.1.1 }) (λ _. refl)

abbrev pub coded_timeline : Coded Timeline
coded_timeline = code_by ((List Answered × List Answered) × Answered) (coded× (coded× (coded_list coded_answered) (coded_list coded_answered)) coded_answered)
    (λ t. ((t.before, t.after), t.now)) (λ p. record { before = p.0.0; now = p.1; after = p.0.1 }) (λ _. refl)

abbrev pub coded_slot : Coded Slot
coded_slot = code_by (ℕ × ℕ) (coded× coded_ℕ coded_ℕ) (λ s. (s.fact, s.member)) (λ p. record { fact = p.0; member = p.1 }) (λ _. refl)

abbrev pub coded_counts : Coded Counts
coded_counts = code_by (List (Slot × ℕ) × ℕ) (coded× (coded_list (coded× coded_slot coded_ℕ)) coded_ℕ) (λ c. (c.stamps, c.touched)) (λ p. record { stamps = p.0; touched = p.1 }) (λ _. refl)

abbrev pub coded_view : Coded SessionView
coded_view = code_by ((AcceptedParts × ℕ) × (Timeline × Option Counts)) (coded× (coded× dictionary.the_row.coded coded_ℕ) (coded× coded_timeline (coded_option coded_counts)))
    (λ s. ((s.dict, s.changes), (s.timeline, s.counts))) (λ p. record { dict = p.0.0; timeline = p.1.0; changes = p.0.1; counts = p.1.1 }) (λ _. refl)
