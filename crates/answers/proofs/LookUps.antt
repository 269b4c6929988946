-- Look-ups in lists of pairs, and in the maps of them.
use Rattle.std.proofs.Common.{◌≡◌, ℕ, false, cond, List, Option, Some, None, refl, sym, ap, ◌∙◌}
use Rattle.std.specs.Prelude.{nat_eq, IsSome, is_some}
use Rattle.std.specs.Map.{lookup}
use Rattle.std.specs.FinMap as map
use Rattle.answers.specs.Finite.{put_at, and_then, map_of}
use Rattle.answers.specs.Room.{HasList}
use Rattle.answers.specs.Meaning.{lists_of, maybe_entry}
use Rattle.answers.specs.declared.lists.Lists.{Lists}
use Rattle.answers.specs.declared.entries.Entries.{Entries}
use Rattle.answers.proofs.FiniteLaws.{get_map_of, one_changed, absent}

-- what the map has, where a list of entries has something
pub at_key : {A X : Type 0} (f : A → Option X) (es : List (ℕ × A)) (m : ℕ) (k : A) → Some k ≡ lookup (nat_eq m) es → map.get (map_of f es) m ≡ f k
at_key f es m k h = get_map_of f es m ∙ ap (and_then f) (sym h)

pub kept_some : (k : Option Entries) → IsSome (maybe_entry k) → IsSome k
kept_some (Some e) h = refl
kept_some None h = h

pub no_key : {A X : Type 0} (f : A → Option X) (es : List (ℕ × A)) (m : ℕ) → None ≡ lookup (nat_eq m) es → map.get (map_of f es) m ≡ None
no_key f es m h = get_map_of f es m ∙ ap (and_then f) (sym h)

pub not_there : {A X : Type 0} (f : A → Option X) (es : List (ℕ × A)) (m : ℕ) → None ≡ lookup (nat_eq m) es → IsSome (map.get (map_of f es) m) → ⊥
not_there f es m h some = none_some _ (no_key f es m h) some
  where
    none_some : {X : Type 0} (o : Option X) → o ≡ None → IsSome o → ⊥
    none_some None e h = cc
    none_some (Some x) e h = cc

-- an empty place is made
pub placed : {A X : Type 0} (f : A → Option X) (es fs : List (ℕ × A)) (m : ℕ) (k : A) → f k ≡ None → is_some (lookup (nat_eq m) es) ≡ false
    → ((q : ℕ) → lookup (nat_eq q) fs ≡ cond (nat_eq m q) (Some k) (lookup (nat_eq q) es)) → map_of f fs ≡ map_of f es
placed f es fs m k none away h = one_changed f es fs m (Some k) h ∙ ap (put_at (map_of f es) m) none ∙ sym (absent f es m away)

-- an open collection has a place
pub open_place : (l : Lists) (c : ℕ) → IsSome (map.get (lists_of l) c) → HasList l c
open_place l c some = by (lookup (nat_eq c) l.kept.entries) refl
  where
    by : (o : Option (Option (List ℕ))) → lookup (nat_eq c) l.kept.entries ≡ o → IsSome o
    by None e = absurd (not_there (λ (o : Option (List ℕ)). o) l.kept.entries c (sym e) some)
    by (Some k) e = refl
