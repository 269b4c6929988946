-- The type of a node, from the types of its operands: none where it has none.
use Rattle.std.specs.Prelude.{ℕ, ◌==◌, Bool, true, false, ◌&&◌, nat_lt, List, [], ◌∷◌, length, Option, Some, None, option_and_then, if◌then◌else◌}
use Rattle.std.specs.List.{list_all}
use Rattle.fact_values.specs.declared.fact_type.FactType.{FactType}
use Rattle.fact_values.specs.declared.fact_type.FactType.TheVariants.{Boolean, Int, Dollar, Rational, Day, Text, Enum, Collection, Item}
use Rattle.dict_source.specs.Tables.{LookupTable}
use Rattle.dict_source.specs.declared.operators.ManyOp.{ManyOp}
use Rattle.dict_source.specs.declared.operators.ManyOp.TheVariants as many_op
use Rattle.dict_source.specs.declared.operators.OneOp.{OneOp}
use Rattle.dict_source.specs.declared.operators.OneOp.TheVariants as one_op
use Rattle.dict_source.specs.declared.operators.TwoOp.{TwoOp}
use Rattle.dict_source.specs.declared.operators.TwoOp.TheVariants as two_op
use Rattle.dict_source.specs.declared.operators.PickOp.{PickOp}
use Rattle.dict_source.specs.declared.operators.PickOp.TheVariants as pick_op

-- ---- kinds of types

abbrev pub same_type : FactType → FactType → Bool
same_type Boolean Boolean = true
same_type Int Int = true
same_type Dollar Dollar = true
same_type Rational Rational = true
same_type Day Day = true
same_type Text Text = true
same_type (Enum a) (Enum b) = a == b
same_type (Collection a) (Collection b) = a == b
same_type (Item a) (Item b) = a == b
same_type _ _ = false

-- their values have an order
abbrev pub is_ordered : FactType → Bool
is_ordered Int = true
is_ordered Dollar = true
is_ordered Rational = true
is_ordered Day = true
is_ordered _ = false

-- Equal and NotEqual take two values of one of them
abbrev pub is_compared : FactType → Bool
is_compared (Collection c) = false
is_compared (Item c) = false
is_compared _ = true

-- ---- any number of operands of one type

-- the type that all of them have
abbrev pub common_type : List FactType → Option FactType
common_type [] = None
common_type (u ∷ us) = if list_all (same_type u) us then Some u else None

-- so many operands of the type
abbrev pub type_of_many : ManyOp → ℕ → FactType → Option FactType
type_of_many many_op.All n Boolean = Some Boolean
type_of_many many_op.Any n Boolean = Some Boolean
type_of_many many_op.Add n Int = Some Int
type_of_many many_op.Add n Dollar = Some Dollar
type_of_many many_op.Add n Rational = if n == 2 then Some Rational else None
type_of_many many_op.Subtract n Int = if nat_lt n 2 then None else Some Int
type_of_many many_op.Subtract n Dollar = if nat_lt n 2 then None else Some Dollar
type_of_many many_op.Subtract n Rational = if n == 2 then Some Rational else None
type_of_many many_op.GreaterOf n t = if is_ordered t then Some t else None
type_of_many many_op.LesserOf n t = if is_ordered t then Some t else None
type_of_many _ _ _ = None

abbrev pub many_type : ManyOp → List FactType → Option FactType
many_type op us = option_and_then (type_of_many op (length us)) (common_type us)

-- ---- one operand

-- where it is known which tables fit
abbrev pub one_type : (LookupTable → Bool) → OneOp → FactType → Option FactType
one_type fits one_op.Not Boolean = Some Boolean
one_type fits one_op.Round Dollar = Some Dollar
one_type fits one_op.YearOf Day = Some Int
one_type fits one_op.MonthOf Day = Some Int
one_type fits one_op.DayOf Day = Some Int
one_type fits (one_op.Lookup t) of = if fits t && same_type of t.from then Some t.to else None
one_type fits _ _ = None

-- ---- two operands

abbrev pub product_type : FactType → FactType → Option FactType
product_type Int Int = Some Int
product_type Int Dollar = Some Dollar
product_type Dollar Int = Some Dollar
product_type Dollar Rational = Some Dollar
product_type Rational Dollar = Some Dollar
product_type Int Rational = Some Rational
product_type Rational Int = Some Rational
product_type Rational Rational = Some Rational
product_type _ _ = None

abbrev pub quotient_type : FactType → FactType → Option FactType
quotient_type Int Int = Some Rational
quotient_type Rational Rational = Some Rational
quotient_type Dollar Int = Some Dollar
quotient_type Dollar Rational = Some Dollar
quotient_type Dollar Dollar = Some Rational
quotient_type _ _ = None

abbrev pub later_day_type : FactType → FactType → Option FactType
later_day_type Day Int = Some Day
later_day_type _ _ = None

-- from one day to another
abbrev pub between_type : FactType → FactType → Option FactType
between_type Day Day = Some Int
between_type _ _ = None

-- an amount, or a fraction of dollars, to the multiples of an amount
abbrev pub multiple_type : FactType → FactType → Option FactType
multiple_type Dollar Dollar = Some Dollar
multiple_type Rational Dollar = Some Dollar
multiple_type _ _ = None

abbrev pub equality_type : FactType → FactType → Option FactType
equality_type a b = if is_compared a && same_type a b then Some Boolean else None

abbrev pub order_type : FactType → FactType → Option FactType
order_type a b = if is_ordered a && same_type a b then Some Boolean else None

abbrev pub two_type : TwoOp → FactType → FactType → Option FactType
two_type two_op.Multiply a b = product_type a b
two_type two_op.Divide a b = quotient_type a b
two_type two_op.AddDays a b = later_day_type a b
two_type two_op.Equal a b = equality_type a b
two_type two_op.NotEqual a b = equality_type a b
two_type two_op.GreaterThan a b = order_type a b
two_type two_op.LessThan a b = order_type a b
two_type two_op.GreaterThanOrEqual a b = order_type a b
two_type two_op.LessThanOrEqual a b = order_type a b
two_type two_op.AddMonths a b = later_day_type a b
two_type two_op.AddYears a b = later_day_type a b
two_type two_op.DaysBetween a b = between_type a b
two_type two_op.AgeOn a b = between_type a b
two_type two_op.RoundUp a b = multiple_type a b
two_type two_op.RoundDown a b = multiple_type a b
two_type two_op.RoundNearest a b = multiple_type a b

-- ---- members of a collection

-- from the base of the collection
abbrev pub pick_type : PickOp → ℕ → FactType
pick_type pick_op.Filter c = Collection c
pick_type pick_op.Find c = Item c
