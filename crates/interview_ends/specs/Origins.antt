-- Where the dictionary and the answers of a run come from.
use Rattle.std.specs.Prelude.{ℕ, List}
use Rattle.built_in.specs.declared.built_in.BuiltIn.{BuiltIn}
use Rattle.interview_ends.specs.declared.origin.Origin.{Origin as Asked}
use Rattle.interview_ends.specs.declared.origin.Origin.TheVariants as asked
use Rattle.interview_ends.specs.declared.origin.Beginning.{Beginning as AskedBeginning}
use Rattle.interview_ends.specs.declared.origin.Beginning.TheVariants as beginnings

-- where its dictionary comes from: the file of a name, or the program, which brings it with it
pub data Origin : Type 0 where
  file : List ℕ → Origin
  program : BuiltIn → Origin

-- where the answers at the start of a run come from: there are none, or they are those of the saved text of this name, which is
-- loaded, or carried
pub data Beginning : Type 0 where
  unanswered : Beginning
  by_load : List ℕ → Beginning
  by_carry : List ℕ → Beginning

abbrev pub origin_of : Asked → Origin
origin_of (asked.File name) = file name.now
origin_of (asked.BuiltIn b) = program b

abbrev pub beginning_of : AskedBeginning → Beginning
beginning_of beginnings.Unanswered = unanswered
beginning_of (beginnings.Load name) = by_load name.now
beginning_of (beginnings.Carry name) = by_carry name.now
