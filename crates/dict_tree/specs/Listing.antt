-- Lists of options that are kept one after the other.
use Rattle.std.specs.Prelude.{Bool, true, not, ◌&&◌, nat_lt, List, [], ◌∷◌, ◌++◌, length}
use Rattle.value_text.specs.Enums.{Listed, is_repeated}

-- the list has a name of its own, and one to a hundred distinct options
abbrev pub may_follow : List Listed → Listed → Bool
may_follow lists e = not (is_repeated lists e) && (nat_lt 0 (length e.options) && not (nat_lt 100 (length e.options)))

-- and so has each of these, behind those before it
abbrev pub may_all_follow : List Listed → List Listed → Bool
may_all_follow lists [] = true
may_all_follow lists (e ∷ es) = may_follow lists e && may_all_follow (lists ++ e ∷ []) es
