-- Which checks and relations a line asks.
use Rattle.std.specs.Prelude.{◌≡◌, ◌⊎◌, ℕ, ◌==◌, ◌&&◌, ◌||◌, Bool, false, List, [], Option, Some, None, slice_get}
use Rattle.dictionary.specs.AcceptedParts.{Named}
use Rattle.fact_watch.specs.Watching.{Watch}
use Rattle.session_lines.specs.Tables.{standard_relations}

abbrev pub is_byte : ℕ → Option ℕ → Bool
is_byte byte (Some b) = b == byte
is_byte byte None = false

-- `set` alone begins with `se`
abbrev pub may_set : List ℕ → Bool
may_set line = is_byte 115 (slice_get line 0) && is_byte 101 (slice_get line 1)

-- `watch` has a `w` first and `unwatch` one third, where no other command has one
abbrev pub may_watch : List ℕ → Bool
may_watch line = is_byte 119 (slice_get line 0) || is_byte 119 (slice_get line 2)

-- nothing is watched, and the line puts no watch and takes none out
abbrev pub AsksNoRelation : List Watch → List ℕ → Type 0
AsksNoRelation watched line = (watched ≡ []) × (may_watch line ≡ false)

-- they are the standard ones, or there are none and the line asks none
abbrev pub Serves : List Named → List Watch → List ℕ → Type 0
Serves relations watched line = (relations ≡ standard_relations) ⊎ ((relations ≡ []) × AsksNoRelation watched line)
