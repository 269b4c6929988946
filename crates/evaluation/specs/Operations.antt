-- What the nodes do with values.
-- The operations are total: an operand of another type than the node takes counts as 0, as false, or as a list of no members.
use Rattle.std.specs.Prelude.{◌≡◌, ℕ, ℤ, pos, unsigned_abs, int_lt, ◌+ℤ◌, ◌-ℤ◌, Bool, true, false, not, ◌&&◌, ◌||◌, if◌then◌else◌, List, [], ◌∷◌, length, Result, Ok, Err}
use Rattle.std.specs.Ordering.{is_gt, is_lt}
use Rattle.fact_values.specs.Days.{day_after, year_of}
use Rattle.fact_values.specs.declared.fact_type.FactType.TheVariants as types
use Rattle.fact_values.specs.declared.fault.ValueFault.{ValueFault}
use Rattle.fact_values.specs.declared.fault.ValueFault.TheVariants.{ZeroDivide}
use Rattle.fact_values.specs.declared.num.Num.{Num}
use Rattle.fact_values.specs.declared.num.Num.TheVariants as num
use Rattle.fact_values.specs.declared.value.Value.{Value}
use Rattle.fact_values.specs.declared.value.Value.TheVariants.{Boolean, Int, Dollar, Rational, Day}
use Rattle.fact_values.specs.Numbers.{product, quotient}
use Rattle.fact_values.specs.Rationals.{Ratio, sum_of_ratios, difference_of_ratios}
use Rattle.fact_values.specs.Rounding.{rounded_dollar}
use Rattle.fact_values.specs.Totals.{checked}
use Rattle.fact_values.specs.Values.{order_of}
use Rattle.law_arithmetic.specs.Ages.{age_on}
use Rattle.law_arithmetic.specs.Dates.{day_of, month_of}
use Rattle.law_arithmetic.specs.Months.{months_after, years_after}
use Rattle.law_arithmetic.specs.Multiples.{rounded_down, rounded_nearest, rounded_up}
use Rattle.dict_source.specs.declared.operators.ManyOp.{ManyOp}
use Rattle.dict_source.specs.declared.operators.ManyOp.TheVariants as many_op
use Rattle.dict_source.specs.declared.operators.OneOp.{OneOp}
use Rattle.dict_source.specs.declared.operators.OneOp.TheVariants as one_op
use Rattle.dict_source.specs.declared.operators.TwoOp.{TwoOp}
use Rattle.dict_source.specs.declared.operators.TwoOp.TheVariants as two_op
use Rattle.dict_source.specs.Tables.{value_for}
use Rattle.three_state.specs.Equality.{value_same}
use Rattle.three_state.specs.Results.{members_in, truth}

-- ---- the number in a value

abbrev pub int_in : Value → ℤ
int_in (Int n) = n
int_in _ = pos 0

-- in cents
abbrev pub dollar_in : Value → ℤ
dollar_in (Dollar cents) = cents
dollar_in _ = pos 0

abbrev pub no_ratio : Ratio
no_ratio = record { num = pos 0; den = 1 }

abbrev pub ratio_in : Value → Ratio
ratio_in (Rational q) = q
ratio_in _ = no_ratio

abbrev pub day_in : Value → ℤ
day_in (Day n) = n
day_in _ = pos 0

abbrev pub number_in : Value → Num
number_in (Dollar cents) = num.Dollar cents
number_in (Rational q) = num.Rational q
number_in v = num.Int (int_in v)

-- ---- numbers as values

abbrev pub number_value : Num → Value
number_value (num.Int n) = Int n
number_value (num.Dollar cents) = Dollar cents
number_value (num.Rational q) = Rational q

-- the outcome of an operation on numbers, as a value
abbrev pub value_as : {A : Type 0} → (A → Value) → Result A ValueFault → Result Value ValueFault
value_as value (Ok n) = Ok (value n)
value_as value (Err fault) = Err fault

-- ---- Add and Subtract: the first operand says of which type they are

-- the exact sum
abbrev pub total : (Value → ℤ) → List Value → ℤ
total number [] = pos 0
total number (v ∷ vs) = number v +ℤ total number vs

abbrev pub sum_of_ints : List Value → Result Value ValueFault
sum_of_ints vs = value_as Int (checked (total int_in vs))

abbrev pub sum_of_dollars : List Value → Result Value ValueFault
sum_of_dollars vs = value_as Dollar (checked (total dollar_in vs))

abbrev pub first_ratio : List Value → Ratio
first_ratio [] = no_ratio
first_ratio (v ∷ vs) = ratio_in v

abbrev pub sum_of : List Value → Result Value ValueFault
sum_of (Dollar cents ∷ vs) = sum_of_dollars (Dollar cents ∷ vs)
sum_of (Rational q ∷ vs) = value_as Rational (sum_of_ratios q (first_ratio vs))
sum_of vs = sum_of_ints vs

-- the first operand less the sum of the rest
abbrev pub difference_of : List Value → Result Value ValueFault
difference_of (Dollar cents ∷ vs) = value_as Dollar (checked (cents -ℤ total dollar_in vs))
difference_of (Rational q ∷ vs) = value_as Rational (difference_of_ratios q (first_ratio vs))
difference_of (v ∷ vs) = value_as Int (checked (int_in v -ℤ total int_in vs))
difference_of [] = sum_of_ints []

-- ---- GreaterOf and LesserOf

abbrev pub greater : Value → Value → Value
greater a b = if is_lt (order_of a b) then b else a

abbrev pub lesser : Value → Value → Value
lesser a b = if is_gt (order_of a b) then b else a

-- the greatest of a value and those of a list
abbrev pub greatest : Value → List Value → Value
greatest v [] = v
greatest v (w ∷ ws) = greatest (greater v w) ws

abbrev pub least : Value → List Value → Value
least v [] = v
least v (w ∷ ws) = least (lesser v w) ws

abbrev pub greatest_of : List Value → Value
greatest_of [] = Int (pos 0)
greatest_of (v ∷ vs) = greatest v vs

abbrev pub least_of : List Value → Value
least_of [] = Int (pos 0)
least_of (v ∷ vs) = least v vs

-- ---- All and Any, as `a && b && c` and `a || b || c` are written

abbrev pub all_from : Bool → List Value → Bool
all_from b [] = b
all_from b (v ∷ vs) = all_from (b && truth v) vs

abbrev pub all_true : List Value → Bool
all_true [] = true
all_true (v ∷ vs) = all_from (truth v) vs

abbrev pub any_from : Bool → List Value → Bool
any_from b [] = b
any_from b (v ∷ vs) = any_from (b || truth v) vs

abbrev pub any_true : List Value → Bool
any_true [] = false
any_true (v ∷ vs) = any_from (truth v) vs

-- ---- the nodes

abbrev pub many_value : ManyOp → List Value → Result Value ValueFault
many_value many_op.All vs = Ok (Boolean (all_true vs))
many_value many_op.Any vs = Ok (Boolean (any_true vs))
many_value many_op.Add vs = sum_of vs
many_value many_op.Subtract vs = difference_of vs
many_value many_op.GreaterOf vs = Ok (greatest_of vs)
many_value many_op.LesserOf vs = Ok (least_of vs)

abbrev pub one_value : OneOp → Value → Result Value ValueFault
one_value one_op.Not v = Ok (Boolean (not (truth v)))
one_value one_op.Round v = value_as Dollar (rounded_dollar (dollar_in v))
one_value one_op.YearOf v = Ok (Int (year_of (day_in v)))
one_value one_op.MonthOf v = Ok (Int (pos (month_of (day_in v))))
one_value one_op.DayOf v = Ok (Int (pos (day_of (day_in v))))
one_value (one_op.Lookup table) v = Ok (value_for table v)

-- its value takes memory: a table of texts gives a copy of one
abbrev pub GivesText : OneOp → Type 0
GivesText (one_op.Lookup table) = table.to ≡ types.Text
GivesText op = ⊥

-- an amount that isn't positive has no multiples to round to, as nothing is divided by 0
abbrev pub increment_of : ℤ → Result ℕ ValueFault
increment_of unit = if int_lt unit (pos 1) then Err ZeroDivide else Ok (unsigned_abs unit)

-- the multiple of an amount
abbrev pub rounded_by : (ℕ → Num → Result ℤ ValueFault) → Num → Result ℕ ValueFault → Result ℤ ValueFault
rounded_by round n (Ok increment) = round increment n
rounded_by round n (Err fault) = Err fault

abbrev pub to_multiple : (ℕ → Num → Result ℤ ValueFault) → Num → ℤ → Result ℤ ValueFault
to_multiple round n unit = rounded_by round n (increment_of unit)

abbrev pub two_value : TwoOp → Value → Value → Result Value ValueFault
two_value two_op.Multiply a b = value_as number_value (product (number_in a) (number_in b))
two_value two_op.Divide a b = value_as number_value (quotient (number_in a) (number_in b))
two_value two_op.AddDays a b = value_as Day (day_after (day_in a) (int_in b))
two_value two_op.Equal a b = Ok (Boolean (value_same a b))
two_value two_op.NotEqual a b = Ok (Boolean (not (value_same a b)))
two_value two_op.GreaterThan a b = Ok (Boolean (is_gt (order_of a b)))
two_value two_op.LessThan a b = Ok (Boolean (is_lt (order_of a b)))
two_value two_op.GreaterThanOrEqual a b = Ok (Boolean (not (is_lt (order_of a b))))
two_value two_op.LessThanOrEqual a b = Ok (Boolean (not (is_gt (order_of a b))))
two_value two_op.AddMonths a b = value_as Day (months_after (day_in a) (int_in b))
two_value two_op.AddYears a b = value_as Day (years_after (day_in a) (int_in b))
two_value two_op.DaysBetween a b = Ok (Int (day_in b -ℤ day_in a))
two_value two_op.AgeOn a b = Ok (Int (age_on (day_in a) (day_in b)))
two_value two_op.RoundUp a b = value_as Dollar (to_multiple rounded_up (number_in a) (dollar_in b))
two_value two_op.RoundDown a b = value_as Dollar (to_multiple rounded_down (number_in a) (dollar_in b))
two_value two_op.RoundNearest a b = value_as Dollar (to_multiple rounded_nearest (number_in a) (dollar_in b))

-- CollectionSize: the number of members
abbrev pub size_value : Value → Result Value ValueFault
size_value v = Ok (Int (pos (length (members_in v))))

-- ---- operations with one operand and with two, on a list

abbrev pub on_one : (Value → Result Value ValueFault) → List Value → Result Value ValueFault
on_one op (v ∷ vs) = op v
on_one op [] = op (Boolean false)

abbrev pub on_two : (Value → Value → Result Value ValueFault) → List Value → Result Value ValueFault
on_two op (v ∷ w ∷ vs) = op v w
on_two op (v ∷ []) = op v (Boolean false)
on_two op [] = op (Boolean false) (Boolean false)
