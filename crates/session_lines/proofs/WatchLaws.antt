-- Steps of the commands that put a watch and take it out.
use Rattle.std.proofs.Common.{◌≡◌, ℕ, false, cond, List, [], ◌∷◌, map, Option, Some, None, refl, sym, ap, subst, ◌∙◌}
use Rattle.std.specs.Prelude.{◌+◌, codes}
use Rattle.std.specs.List.{position_from}
use Rattle.std.specs.Str.{bytes_eq}
use Rattle.text_checks.specs.Places.{place_of}
use Rattle.dictionary.specs.AcceptedParts.{Named}
use Rattle.fact_watch.specs.Refusals.{Refused}
use Rattle.fact_watch.specs.Watching.{Watch}
use Rattle.fact_watch.specs.declared.commands.WatchRefusal.{WatchRefusal}
use Rattle.fact_watch.specs.declared.commands.WatchRefusal.TheVariants as watches
use Rattle.fg_io.specs.Outside.{Output}
use Rattle.session_lines.specs.declared.progress.Progress.{Progress}
use Rattle.session_lines.specs.Answering.{KeptAs, SteppedAs, WatchRefusedAs, WrittenAs}
use Rattle.session_lines.specs.Replies.{is_watch_memory, watch_refusal_text}
use Rattle.session_lines.specs.Stepping.{LineState, open_at, place_in, watch_decided}
use Rattle.session_lines.proofs.AnsweringLaws.{ends_or_steps, keeps_refused, keeps_written, text_step}

-- ---- a table as its list of names and codes

module _ {R : Type 0} (name : R → List ℕ) (code : R → ℕ) (x : List ℕ) where
  position_same : (rs : List R) (i : ℕ) → position_from (λ (n : Named). bytes_eq n.0 x) i (map {B = List ℕ × ℕ} (λ r. (name r, code r)) rs) ≡ position_from (λ r. bytes_eq (name r) x) i rs
  position_same [] i = refl
  position_same (r ∷ rs) i = ap (cond (bytes_eq (name r) x) (Some i)) (position_same rs (i + 1))

  place_same : (rs : List R) → place_in (map {B = List ℕ × ℕ} (λ r. (name r, code r)) rs) x ≡ place_of rs name x
  place_same rs = position_same rs 0

-- the same, of the list that comes first
pub place_by_names : {R : Type 0} (rs : List R) (name : R → List ℕ) (code : R → ℕ) (x : List ℕ) → place_in (map {B = List ℕ × ℕ} (λ r. (name r, code r)) rs) x ≡ place_of rs name x
place_by_names rs name code x = place_same name code x rs

-- a refusal that isn't want of memory is the defined one
refused_is : (refusal : WatchRefusal) (o : Option WatchRefusal) → Refused refusal o → is_watch_memory refusal ≡ false → o ≡ Some refusal
refused_is watches.NoMemory o refused known = absurd cc
refused_is watches.UnknownWatch o refused known = refused
refused_is watches.WatchThere o refused known = refused
refused_is watches.WatchesFull o refused known = refused
refused_is watches.NotWatched o refused known = refused

module _ (sink sink_now : Output) (s : LineState) (watched : List Watch) (now : List Watch) (progress : Progress) where
  -- what was decided
  pub allowed_steps : (o : Option WatchRefusal) → o ≡ None → now ≡ watched → WrittenAs sink sink_now (codes "ok" ∷ []) progress
      → SteppedAs sink sink_now (watch_decided s watched o) (record s { watched = now }) progress
  allowed_steps o none same written =
      subst (λ (p : Option WatchRefusal). SteppedAs sink sink_now (watch_decided s watched p) (record s { watched = now }) progress) (sym none)
      (subst (λ (ps : List Watch). SteppedAs sink sink_now (watch_decided s watched None) (record s { watched = ps }) progress) (sym same)
      (text_step sink sink_now (codes "ok" ∷ []) (record s { watched = watched }) progress written))

  pub refused_steps : (o : Option WatchRefusal) (refusal : WatchRefusal) → Refused refusal o → now ≡ s.watched → WatchRefusedAs sink sink_now refusal progress
      → SteppedAs sink sink_now (watch_decided s watched o) (record s { watched = now }) progress
  refused_steps o refusal refused same written =
      subst (λ (ps : List Watch). SteppedAs sink sink_now (watch_decided s watched o) (record s { watched = ps }) progress) (sym same)
      (ends_or_steps sink sink_now (watch_decided s watched o) s (watch_refusal_text refusal) (is_watch_memory refusal) progress
      (λ known. ap (watch_decided s watched) (refused_is refusal o refused known)) written)

  -- and what stands behind it
  pub allowed_keeps : (o : Option WatchRefusal) → o ≡ None → now ≡ watched → WrittenAs sink sink_now (codes "ok" ∷ []) progress
      → KeptAs (watch_decided s watched o).state s (record s { watched = now }) progress
  allowed_keeps o none same written =
      keeps_written sink sink_now s (record s { watched = now }) (watch_decided s watched o).state (codes "ok" ∷ []) progress
      (ap (λ (p : Option WatchRefusal). (watch_decided s watched p).state) none ∙ ap (λ (ps : List Watch). open_at (record s { watched = ps })) (sym same)) written

  pub refused_keeps : (o : Option WatchRefusal) (refusal : WatchRefusal) → Refused refusal o → now ≡ s.watched → WatchRefusedAs sink sink_now refusal progress
      → KeptAs (watch_decided s watched o).state s (record s { watched = now }) progress
  refused_keeps o refusal refused same written =
      keeps_refused sink sink_now s (record s { watched = now }) (watch_decided s watched o).state (watch_refusal_text refusal ∷ []) (is_watch_memory refusal) progress (ap (λ (ps : List Watch). record s { watched = ps }) same)
      (λ known. ap (λ (p : Option WatchRefusal). (watch_decided s watched p).state) (refused_is refusal o refused known)) written
