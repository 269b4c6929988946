-- The watches of a session: which there are, and what they noted.
use Rattle.std.specs.Prelude.{ℕ, ◌&&◌, Bool, false, nat_eq, nat_le, List, [], length, map, filter, not, Option, Some, None, option_map, refl, slice_get, unwrap_or}
use Rattle.std.specs.List.{list_any}
use Rattle.std.specs.Coded.{Coded, code_by, coded×, coded_ℕ, coded_list, coded_option}
use Rattle.fact_values.specs.declared.slot.Slot.{Slot}
use Rattle.three_state.specs.declared.res.Res.{Res}
use Rattle.three_state.specs.contracts.res.Res as res
use Rattle.evaluation.specs.Results.{Results}
use Rattle.dict_meaning.specs.Slots.{slot_same}
use Rattle.graph_session.specs.SessionView.{coded_slot}
use Rattle.fact_watch.specs.Says.{slot_says}

-- a watch: the place of its relation in the table, and its slot
abbrev pub Watch : Type 0
Watch = ℕ × Slot

-- The watches in the order in which they were put. Of each, what was noted of its slot: its result, and none where it didn't
-- stand. Nothing is noted from a put or a cut on until the next note.
pub record Watching : Type 0 where
  pub watched : List Watch
  pub notes : List (Option Res)

abbrev pub nothing_watched : Watching
nothing_watched = record { watched = []; notes = [] }

-- with nothing noted
abbrev pub unnoted : List Watch → Watching
unnoted watched = record { watched = watched; notes = [] }

-- with these results noted
abbrev pub noted : List Watch → Results → Watching
noted watched results = record { watched = watched; notes = map (λ (p : Watch). results p.1) watched }

abbrev pub watch_same : Watch → Watch → Bool
watch_same p q = nat_eq p.0 q.0 && slot_same p.1 q.1

-- the watch is there
abbrev pub is_put : List Watch → Watch → Bool
is_put watched p = list_any (watch_same p) watched

-- there are 1,000
abbrev pub is_full : List Watch → Bool
is_full watched = nat_le 1000 (length watched)

abbrev pub without : Watch → List Watch → List Watch
without p watched = filter (λ q. not (watch_same p q)) watched

-- ---- which watches fire

-- the code of the relation at a place: 0, by which nothing is said, where there is none
abbrev pub code_at : {R : Type 0} → (R → ℕ) → List R → ℕ → ℕ
code_at code relations place = unwrap_or (option_map code (slice_get relations place)) 0

-- the relation of the watch, whose code is that of its place, says yes of its slot
abbrev pub says_of_watch : (ℕ → ℕ) → Option Watch → (Slot → Option Res) → Results → Bool
says_of_watch codes None before after = false
says_of_watch codes (Some p) before after = slot_says (codes p.0) (before p.1) (after p.1)

-- Of the watch at n, from 0: its slot stands before and after, and its relation says yes of the results before and after.
abbrev pub fires_between : (ℕ → ℕ) → List Watch → Results → Results → ℕ → Bool
fires_between codes watched before after n = says_of_watch codes (slice_get watched n) before after

-- the same, with what was noted of the watch as the result before
abbrev pub fires_now : (ℕ → ℕ) → Watching → Results → ℕ → Bool
fires_now codes w now n = says_of_watch codes (slice_get w.watched n) (λ s. unwrap_or (slice_get w.notes n) None) now

-- ---- codes

abbrev pub coded_watching : Coded Watching
coded_watching = code_by (List Watch × List (Option Res)) (coded× (coded_list (coded× coded_ℕ coded_slot)) (coded_list (coded_option res.the_row.coded))) (λ w. (w.watched, w.notes)) (λ p. record { watched = p.0; notes = p.1 }) (λ _. refl)
