-- The rules that uses may break.
use Rattle.std.specs.Prelude.{ℕ}
use Rattle.dict_source.specs.Dictionary.{Dictionary}
use Rattle.dict_rules.specs.declared.uses.UseRule.{UseRule}
use Rattle.dict_rules.specs.declared.uses.UseRule.TheVariants as rules
use Rattle.dict_rules.specs.Uses.{UseTest}
use Rattle.dict_rules.specs.BadPath.{is_bad_use}
use Rattle.dict_rules.specs.NoCollection.{use_lacks_list}
use Rattle.dict_rules.specs.UnknownPath.{is_unknown_use}
use Rattle.dict_rules.specs.WrongPlace.{is_misplaced}

-- a use in the fact with this number breaks the rule
abbrev pub use_breaks : Dictionary → ℕ → UseRule → UseTest
use_breaks d n rules.BadPath = is_bad_use
use_breaks d n rules.NoCollection = use_lacks_list d n
use_breaks d n rules.UnknownPath = is_unknown_use d n
use_breaks d n rules.WrongPlace = is_misplaced d n
