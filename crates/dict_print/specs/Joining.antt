-- Lists of JSON values that grow at their end.
use Rattle.std.specs.Prelude.{◌≡◌}
use Rattle.serde_json.specs.Data.{Data, Items, no_items, item}

-- the items, and then those behind them
abbrev pub joined : Items → Items → Items
joined no_items rest = rest
joined (item d ds) rest = item d (joined ds rest)

-- the value was appended to the items
abbrev pub Appends : Data → Items → Items → Type 0
Appends d before after = (rest : Items) → joined after rest ≡ joined before (item d rest)
