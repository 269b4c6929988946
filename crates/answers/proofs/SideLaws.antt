-- One side of what stands at a slot, and the maps of both sides.
use Rattle.std.proofs.Common.{◌≡◌, ℕ, cond, List, Option, Some, None, refl, sym, ap, ◌∙◌}
use Rattle.std.specs.Prelude.{nat_eq}
use Rattle.std.specs.Map.{lookup}
use Rattle.std.specs.FinMap as map
use Rattle.fact_values.specs.declared.value.Value.{Value}
use Rattle.answers.specs.declared.edit.Side.{Side}
use Rattle.answers.specs.declared.edit.Side.TheVariants.{Answer, Override}
use Rattle.answers.specs.declared.sides.Sides.{Sides}
use Rattle.answers.specs.declared.entries.Entries.{Entries}
use Rattle.answers.specs.Finite.{and_then, put_at}
use Rattle.answers.specs.Answered.{Entry, of_side}
use Rattle.answers.specs.Change.{with_value}
use Rattle.answers.specs.Meaning.{side_of, entry_in, entry_of, kept_sides, sides_by_fact}
use Rattle.answers.proofs.FiniteLaws.{get_map_of, one_changed, put_same}

pub entry_same : (d e : Entry) → d.values ≡ e.values → d.overrides ≡ e.overrides → d ≡ e
entry_same d e v o = λ i. record { values = v i; overrides = o i }

-- the side of what stands at a fact
pub side_at : (side : Side) (es : List (ℕ × Sides)) (f : ℕ)
    → map.get (of_side side (entry_in es)) f ≡ and_then (side_of side) (lookup (nat_eq f) es)
side_at Answer es f = get_map_of (side_of Answer) es f
side_at Override es f = get_map_of (side_of Override) es f

abbrev pub differs : Side → Side → Type 0
differs side q = q ≡ side → ⊥

answer_differs : Answer ≡ Override → ⊥
answer_differs e = cc

override_differs : Override ≡ Answer → ⊥
override_differs e = cc

-- what stands at a fact is written, with one side changed
pub side_written : (side : Side) (ds es : List (ℕ × Sides)) (f : ℕ) (v : Option Value) (p : Sides)
    → ((q : ℕ) → lookup (nat_eq q) es ≡ cond (nat_eq f q) (Some p) (lookup (nat_eq q) ds))
    → side_of side p ≡ v → ((q : Side) → differs side q → side_of q p ≡ map.get (of_side q (entry_in ds)) f)
    → entry_in es ≡ with_value side f v (entry_in ds)
side_written Answer ds es f v p h own other = entry_same _ _
    (one_changed (side_of Answer) ds es f (Some p) h ∙ ap (put_at (entry_in ds).values f) own)
    (one_changed (side_of Override) ds es f (Some p) h ∙ put_same (entry_in ds).overrides f p.overriding (sym (other Override override_differs)))
side_written Override ds es f v p h own other = entry_same _ _
    (one_changed (side_of Answer) ds es f (Some p) h ∙ put_same (entry_in ds).values f p.answer (sym (other Answer answer_differs)))
    (one_changed (side_of Override) ds es f (Some p) h ∙ ap (put_at (entry_in ds).overrides f) own)

-- nothing is taken away at a fact without a place
pub side_cleared : (side : Side) (es : List (ℕ × Sides)) (f : ℕ) → lookup (nat_eq f) es ≡ None
    → entry_in es ≡ with_value side f None (entry_in es)
side_cleared Answer es f h = entry_same _ _ (sym (put_same (entry_in es).values f None (side_at Answer es f ∙ ap (and_then (side_of Answer)) h))) refl
side_cleared Override es f h = entry_same _ _ refl (sym (put_same (entry_in es).overrides f None (side_at Override es f ∙ ap (and_then (side_of Override)) h)))

-- no fact has a place where no map is
pub no_sides : (e : Entries) (f : ℕ) → e.kept ≡ None → lookup (nat_eq f) (sides_by_fact e) ≡ None
no_sides e f h = ap (λ kept. lookup (nat_eq f) (kept_sides kept)) h

pub nothing_at : (side : Side) (e : Entries) (f : ℕ) → e.kept ≡ None → map.get (of_side side (entry_of e)) f ≡ None
nothing_at side e f h = side_at side (sides_by_fact e) f ∙ ap (and_then (side_of side)) (no_sides e f h)
