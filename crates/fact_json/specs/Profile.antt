-- The law profile: the operators that only its version has.
use Rattle.std.specs.Prelude.{Bool, true, false, not, ◌||◌, Option, Some, None}
use Rattle.dict_source.specs.declared.operators.OneOp.{OneOp}
use Rattle.dict_source.specs.declared.operators.OneOp.TheVariants as ones
use Rattle.dict_source.specs.declared.operators.TwoOp.{TwoOp}
use Rattle.dict_source.specs.declared.operators.TwoOp.TheVariants as twos
use Rattle.fact_json.specs.declared.version.Version.{Version}
use Rattle.fact_json.specs.declared.version.Version.TheVariants as versions
use Rattle.dict_source.specs.Tree.{Tree, Trees, Cases, literal, read, switch, many, one, two, pick, no_trees, tree, no_cases, a_case, Source, SourceCase}
use Rattle.dict_source.specs.Facts.{Fact}

-- ---- operators

abbrev pub is_one_of_law : OneOp → Bool
is_one_of_law ones.MonthOf = true
is_one_of_law ones.DayOf = true
is_one_of_law (ones.Lookup t) = true
is_one_of_law ones.Not = false
is_one_of_law ones.Round = false
is_one_of_law ones.YearOf = false

abbrev pub is_two_of_law : TwoOp → Bool
is_two_of_law twos.AddMonths = true
is_two_of_law twos.AddYears = true
is_two_of_law twos.DaysBetween = true
is_two_of_law twos.AgeOn = true
is_two_of_law twos.RoundUp = true
is_two_of_law twos.RoundDown = true
is_two_of_law twos.RoundNearest = true
is_two_of_law _ = false

-- ---- expressions with one of them

abbrev mutual
  pub uses_law : {C R P : Type 0} → Tree C R P → Bool
  uses_law (literal c) = false
  uses_law (read r) = false
  uses_law (switch cs) = case_uses_law cs
  uses_law (many op ts) = one_uses_law ts
  uses_law (one op t) = is_one_of_law op || uses_law t
  uses_law (two op a b) = is_two_of_law op || (uses_law a || uses_law b)
  uses_law (pick op p t) = uses_law t

  pub one_uses_law : {C R P : Type 0} → Trees C R P → Bool
  one_uses_law no_trees = false
  one_uses_law (tree t ts) = uses_law t || one_uses_law ts

  pub case_uses_law : {C R P : Type 0} → Cases C R P → Bool
  case_uses_law no_cases = false
  case_uses_law (a_case t o cs) = uses_law t || (uses_law o || case_uses_law cs)

-- ---- facts

abbrev pub option_uses_law : Option Source → Bool
option_uses_law None = false
option_uses_law (Some t) = uses_law t

abbrev pub conditional_uses_law : Option SourceCase → Bool
conditional_uses_law None = false
conditional_uses_law (Some c) = uses_law c.0 || uses_law c.1

abbrev pub fact_uses_law : Fact → Bool
fact_uses_law f = option_uses_law f.main || (conditional_uses_law f.conditional || option_uses_law f.placeholder)

-- the version has each operator of the fact
abbrev pub has_operators : Version → Fact → Bool
has_operators versions.First f = not (fact_uses_law f)
has_operators versions.Second f = not (fact_uses_law f)
has_operators versions.Law f = true
