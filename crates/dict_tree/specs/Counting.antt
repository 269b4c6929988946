-- How many items an array has.
use Rattle.std.specs.Prelude.{◌≡◌, ℕ, suc, ◌^◌, ◌<◌, codes, Some, option_and_then}
use Rattle.serde_json.specs.Data.{Data, Items, no_items, item}
use Rattle.serde_json.specs.Find.{as_array, get}

abbrev pub count_of : Items → ℕ
count_of no_items = 0
count_of (item d ds) = suc (count_of ds)

-- the facts of the value are so few that 32 bits number them
abbrev pub HasFewFacts : Data → Type 0
HasFewFacts d = (ds : Items) → option_and_then as_array (get (codes "facts") d) ≡ Some ds → count_of ds < 2 ^ 32
