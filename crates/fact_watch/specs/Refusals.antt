-- Why a watch isn't put, or isn't taken out: the first refusal that holds, of a slot that stands.
use Rattle.std.specs.Prelude.{◌≡◌, ℕ, Bool, not, List, [], ◌∷◌, Option, Some, None, is_none, unwrap_or, if◌then◌else◌}
use Rattle.fact_values.specs.declared.slot.Slot.{Slot}
use Rattle.fact_watch.specs.Watching.{Watch, is_full, is_put}
use Rattle.fact_watch.specs.declared.commands.WatchRefusal.{WatchRefusal}
use Rattle.fact_watch.specs.declared.commands.WatchRefusal.TheVariants.{UnknownWatch, WatchThere, WatchesFull, NotWatched, NoMemory}

-- the watch by a name's place, of a slot; a name that has no place counts as the first
abbrev pub watch_of : Option ℕ → Slot → Watch
watch_of place s = (unwrap_or place 0, s)

abbrev pub when : Bool → WatchRefusal → Option WatchRefusal
when b r = if b then Some r else None

-- the first that holds
abbrev pub first_of : List (Option WatchRefusal) → Option WatchRefusal
first_of [] = None
first_of (None ∷ rest) = first_of rest
first_of (Some r ∷ rest) = Some r

-- of a name by its place in the table, if it is there
abbrev pub watch_refusal : Option ℕ → List Watch → Slot → Option WatchRefusal
watch_refusal place watched s =
    first_of (
    when (is_none place) UnknownWatch
    ∷ when (is_put watched (watch_of place s)) WatchThere
    ∷ when (is_full watched) WatchesFull
    ∷ [])

abbrev pub unwatch_refusal : Option ℕ → List Watch → Slot → Option WatchRefusal
unwatch_refusal place watched s =
    first_of (
    when (is_none place) UnknownWatch
    ∷ when (not (is_put watched (watch_of place s))) NotWatched
    ∷ [])

-- the refusal is the defined one; want of memory says nothing
abbrev pub Refused : WatchRefusal → Option WatchRefusal → Type 0
Refused UnknownWatch r = r ≡ Some UnknownWatch
Refused WatchThere r = r ≡ Some WatchThere
Refused WatchesFull r = r ≡ Some WatchesFull
Refused NotWatched r = r ≡ Some NotWatched
Refused NoMemory r = Unit {0}
