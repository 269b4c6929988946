-- Edits of the members of one collection, of which there are none where it isn't open.
use Rattle.std.specs.Prelude.{◌≡◌, ◌<◌, ◌≤◌, ℕ, true, List, [], ◌∷◌, ◌++◌, length, insert, remove, Option, Some, None, IsSome, unwrap_or, if◌then◌else◌}
use Rattle.answers.specs.Lists.{without_last}
use Rattle.answers.specs.declared.listed.ListEdit.{ListEdit}
use Rattle.answers.specs.declared.listed.ListEdit.TheVariants.{Open, Close, Push, Pop, TakeOut, PutIn}

-- the members afterwards
abbrev pub edited : ListEdit → Option (List ℕ) → Option (List ℕ)
edited Open o = Some []
edited Close o = None
edited (Push m) o = Some (unwrap_or o [] ++ m ∷ [])
edited (Pop close) o = if close then None else Some (without_last (unwrap_or o []))
edited (TakeOut place) o = Some (remove (unwrap_or o []) place)
edited (PutIn place m) o = Some (insert (unwrap_or o []) place m)

-- the edit can be made
abbrev pub MayEdit : ListEdit → Option (List ℕ) → Type 0
MayEdit Open o = o ≡ None
MayEdit Close o = o ≡ Some []
MayEdit (Push m) o = length (unwrap_or o []) < 100
MayEdit (Pop close) o = IsSome o × (close ≡ true → without_last (unwrap_or o []) ≡ [])
MayEdit (TakeOut place) o = IsSome o × (place < length (unwrap_or o []))
MayEdit (PutIn place m) o = IsSome o × (length (unwrap_or o []) < 100) × (place ≤ length (unwrap_or o []))
