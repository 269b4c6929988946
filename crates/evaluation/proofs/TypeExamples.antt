-- Which type each kind of node has, by example.
use Rattle.std.proofs.Common.{◌≡◌, ℕ, pos, List, [], ◌∷◌, Option, Some, refl}
use Rattle.std.specs.Prelude.{codes}
use Rattle.fact_values.specs.declared.fact_type.FactType.{FactType}
use Rattle.fact_values.specs.declared.fact_type.FactType.TheVariants.{Boolean, Int, Dollar, Rational, Day, Text, Enum, Collection, Item}
use Rattle.fact_values.specs.declared.value.Value.{Value}
use Rattle.fact_values.specs.declared.value.Value.TheVariants as values
use Rattle.dict_source.specs.OperandTypes.{many_type, one_type}
use Rattle.dict_source.specs.Tables.{LookupTable, is_fit}
use Rattle.dict_source.specs.Tree.{Tree, Trees, literal, read, switch, many, one, two, pick, no_trees, tree, no_cases, a_case}
use Rattle.dict_source.specs.Typing.{HasType, HaveTypes, ReadType, Types}
use Rattle.dict_source.specs.declared.operators.ReadOp.TheVariants as read_op
use Rattle.dict_source.specs.declared.operators.ManyOp.TheVariants.{All, Add, Subtract, GreaterOf}
use Rattle.dict_source.specs.declared.operators.OneOp.TheVariants.{Not, Round, YearOf, MonthOf, DayOf, Lookup}
use Rattle.dict_source.specs.declared.operators.TwoOp.TheVariants.{Multiply, Divide, AddDays, AddMonths, AddYears, AgeOn, DaysBetween, RoundUp, RoundDown, Equal, LessThan}
use Rattle.dict_source.specs.declared.operators.PickOp.TheVariants.{Filter, Find}

-- ---- expressions whose constants and reads are types themselves, and whose collections are bases.
-- Each list has two options.

abbrev OfTypes : Type 0
OfTypes = Tree FactType FactType ℕ

abbrev example_types : Types FactType FactType ℕ
example_types = record {
  constant = λ t. Some t;
  reads = λ b t. Some t;
  source = λ b c. Some c;
  fits = is_fit (λ list. 2);
}

-- outside a condition
abbrev Has : OfTypes → FactType → Type 0
Has t u = HasType example_types 0 t u

abbrev a : FactType → OfTypes
a t = literal t

abbrev operands : List FactType → Trees FactType FactType ℕ
operands [] = no_trees
operands (t ∷ ts) = tree (a t) (operands ts)

abbrev int : Option FactType
int = Some Int

a_constant : Has (a (Enum 2)) (Enum 2)
a_constant = refl

a_read : Has (read Day) Day
a_read = refl

a_dependency : ReadType read_op.Dependency (Item 3) (Item 3)
a_dependency = refl

a_complete_test : ReadType read_op.IsComplete (Collection 3) Boolean
a_complete_test = refl

a_size : ReadType read_op.CollectionSize (Collection 3) Int
a_size = (tt, refl)

no_size_of_an_int : ReadType read_op.CollectionSize Int Int → ⊥
no_size_of_an_int h = h.0

a_sum_of_fields : ReadType read_op.CollectionSum Dollar Dollar
a_sum_of_fields = (tt, refl)

no_sum_of_rational_fields : ReadType read_op.CollectionSum Rational Rational → ⊥
no_sum_of_rational_fields h = h.0

a_count : ReadType read_op.Count Boolean Int
a_count = (refl, refl)

a_switch : Has (switch (a_case (a Boolean) (a Text) (a_case (a Boolean) (a Text) no_cases))) Text
a_switch = (tt, (refl, refl, (refl, refl, tt)))

no_empty_switch : Has (switch no_cases) Text → ⊥
no_empty_switch h = h.0

an_all : Has (many All (operands (Boolean ∷ Boolean ∷ []))) Boolean
an_all = (Boolean ∷ Boolean ∷ [], (refl, (refl, tt)), refl)

a_sum : Has (many Add (operands (Dollar ∷ Dollar ∷ Dollar ∷ []))) Dollar
a_sum = (Dollar ∷ Dollar ∷ Dollar ∷ [], (refl, (refl, (refl, tt))), refl)

a_sum_of_two_rationals : Has (many Add (operands (Rational ∷ Rational ∷ []))) Rational
a_sum_of_two_rationals = (Rational ∷ Rational ∷ [], (refl, (refl, tt)), refl)

a_sum_of_one : Has (many Add (operands (Int ∷ []))) Int
a_sum_of_one = (Int ∷ [], (refl, tt), refl)

a_difference : Has (many Subtract (operands (Int ∷ Int ∷ []))) Int
a_difference = (Int ∷ Int ∷ [], (refl, (refl, tt)), refl)

-- a difference has two operands at least
no_difference_of_one : Has (many Subtract (operands (Int ∷ []))) Int → ⊥
no_difference_of_one (us, k, m) = one_operand us k m
  where
    of_one : (u : FactType) → int ≡ Some u → many_type Subtract (u ∷ []) ≡ Some Int → ⊥
    of_one Int e m = cc
    of_one _ e m = cc

    one_operand : (us : List FactType) → HaveTypes example_types 0 (operands (Int ∷ [])) us → many_type Subtract us ≡ Some Int → ⊥
    one_operand [] k m = k
    one_operand (u ∷ []) k m = of_one u k.0 m
    one_operand (u ∷ v ∷ us) k m = k.1

a_greatest_day : Has (many GreaterOf (operands (Day ∷ []))) Day
a_greatest_day = (Day ∷ [], (refl, tt), refl)

a_negation : Has (one Not (a Boolean)) Boolean
a_negation = (Boolean, refl, refl)

a_rounded_dollar : Has (one Round (a Dollar)) Dollar
a_rounded_dollar = (Dollar, refl, refl)

a_year : Has (one YearOf (a Day)) Int
a_year = (Day, refl, refl)

a_product : Has (two Multiply (a Rational) (a Dollar)) Dollar
a_product = (Rational, Dollar, refl, refl, refl)

a_quotient : Has (two Divide (a Int) (a Int)) Rational
a_quotient = (Int, Int, refl, refl, refl)

a_later_day : Has (two AddDays (a Day) (a Int)) Day
a_later_day = (Day, Int, refl, refl, refl)

a_month : Has (one MonthOf (a Day)) Int
a_month = (Day, refl, refl)

a_day_of_the_month : Has (one DayOf (a Day)) Int
a_day_of_the_month = (Day, refl, refl)

-- a table of no rows
abbrev table : FactType → Value → LookupTable
table to below = record { name = codes "t"; from = Int; to = to; rows = []; below = below }

abbrev options : LookupTable
options = table (Enum 3) (values.Choice 3 1)

a_lookup : Has (one (Lookup options) (a Int)) (Enum 3)
a_lookup = (Int, refl, refl)

-- the keys are whole numbers
no_lookup_by_a_day : Has (one (Lookup options) (a Day)) (Enum 3) → ⊥
no_lookup_by_a_day (u, k, m) = of_day u k m
  where
    of_day : (u : FactType) → Some Day ≡ Some u → one_type (is_fit (λ list. 2)) (Lookup options) u ≡ Some (Enum 3) → ⊥
    of_day Day e m = cc
    of_day _ e m = cc

-- the list has no such option
no_lookup_of_an_option_beyond : Has (one (Lookup (table (Enum 3) (values.Choice 3 2))) (a Int)) (Enum 3) → ⊥
no_lookup_of_an_option_beyond (u, k, m) = cc

-- the value is of another type than the table says
no_lookup_of_another_type : Has (one (Lookup (table Dollar (values.Int (pos 1)))) (a Int)) Dollar → ⊥
no_lookup_of_another_type (u, k, m) = cc

a_later_month : Has (two AddMonths (a Day) (a Int)) Day
a_later_month = (Day, Int, refl, refl, refl)

a_later_year : Has (two AddYears (a Day) (a Int)) Day
a_later_year = (Day, Int, refl, refl, refl)

a_difference_of_days : Has (two DaysBetween (a Day) (a Day)) Int
a_difference_of_days = (Day, Day, refl, refl, refl)

an_age : Has (two AgeOn (a Day) (a Day)) Int
an_age = (Day, Day, refl, refl, refl)

a_multiple_above : Has (two RoundUp (a Rational) (a Dollar)) Dollar
a_multiple_above = (Rational, Dollar, refl, refl, refl)

a_multiple_below : Has (two RoundDown (a Dollar) (a Dollar)) Dollar
a_multiple_below = (Dollar, Dollar, refl, refl, refl)

an_equality : Has (two Equal (a (Enum 1)) (a (Enum 1))) Boolean
an_equality = (Enum 1, Enum 1, refl, refl, refl)

an_order : Has (two LessThan (a Rational) (a Rational)) Boolean
an_order = (Rational, Rational, refl, refl, refl)

a_filter : Has (pick Filter 3 (a Boolean)) (Collection 3)
a_filter = (3, refl, refl, refl)

a_find : Has (pick Find 3 (a Boolean)) (Item 3)
a_find = (3, refl, refl, refl)
