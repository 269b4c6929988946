-- Each kind of node, by example. Amounts are in cents.
use Rattle.std.specs.Prelude.{codes}
use Rattle.std.proofs.Common.{◌≡◌, ℕ, ℤ, pos, negsuc, true, false, List, [], ◌∷◌, map, nat_eq, if◌then◌else◌, refl, ap, arith}
use Rattle.std.proofs.lemmas.Int.{ints}
use Rattle.fact_values.specs.Days.{IsDateInRange, last_day}
use Rattle.fact_values.specs.declared.fact_type.FactType.TheVariants as types
use Rattle.fact_values.specs.declared.fault.ValueFault.TheVariants.{Overflow, ZeroDivide}
use Rattle.fact_values.specs.declared.value.Value.{Value}
use Rattle.fact_values.specs.declared.value.Value.TheVariants.{Boolean, Int, Dollar, Rational, Day, Text, Choice, Members, Item}
use Rattle.fact_values.specs.Rationals.{Ratio, gcd}
use Rattle.law_arithmetic.specs.declared.table.Row.{Row}
use Rattle.dict_source.specs.Tables.{LookupTable}
use Rattle.dict_source.specs.Tree.{Tree, Trees, literal, read, switch, many, one, two, pick, no_trees, tree, no_cases, a_case}
use Rattle.dict_source.specs.declared.operators.ManyOp.TheVariants.{All, Any, Add, Subtract, GreaterOf, LesserOf}
use Rattle.dict_source.specs.declared.operators.OneOp.TheVariants.{Not, Round, YearOf, Lookup}
use Rattle.dict_source.specs.declared.operators.TwoOp.{TwoOp}
use Rattle.dict_source.specs.declared.operators.TwoOp.TheVariants.{Multiply, Divide, AddDays, DaysBetween, RoundUp, RoundDown, RoundNearest, Equal, NotEqual, GreaterThan, LessThan, GreaterThanOrEqual, LessThanOrEqual}
use Rattle.dict_source.specs.declared.operators.PickOp.TheVariants.{Filter, Find}
use Rattle.three_state.specs.declared.res.Res.{Res}
use Rattle.three_state.specs.declared.res.Res.TheVariants.{Complete, Placeholder, Incomplete, Fault}
use Rattle.three_state.specs.Results.{count_of}
use Rattle.fact_values.proofs.Days.{year_of-date}
use Rattle.fact_values.proofs.ValueExamples.{last_day_is_in_2199}
use Rattle.evaluation.specs.Over.{Env, over, weight}
use Rattle.evaluation.specs.Reads.{collection_size, complete_test, sum_over, through_item}

-- ---- expressions that have their results in them: a read by the member that it stands at, a collection as it is

abbrev pub Example : Type 0
Example = Tree Value (ℕ → Res) Res

abbrev pub example_env : Env Value (ℕ → Res) Res ℕ
example_env = record {
  constant = λ v. v;
  reads = λ at r. r at;
  source = λ at p. p;
  enter = λ at p m. m;
}

-- outside a condition
abbrev pub gives : Example → Res
gives t = over example_env 0 t

abbrev AreSame : List (Res × Res) → Type 0
AreSame rows = map (λ (row : Res × Res). row.0) rows ≡ map (λ (row : Res × Res). row.1) rows

-- what each expression gives
abbrev AreGiven : List (Example × Res) → Type 0
AreGiven rows = AreSame (map (λ (row : Example × Res). (gives row.0, row.1)) rows)

abbrev pub dependency : Res → Example
dependency r = read (λ at. r)

abbrev pub operands : List Example → Trees Value (ℕ → Res) Res
operands [] = no_trees
operands (t ∷ ts) = tree t (operands ts)

abbrev pub yes : Example
yes = literal (Boolean true)

abbrev pub no : Example
no = literal (Boolean false)

abbrev pub int : ℤ → Example
int n = literal (Int n)

abbrev pub dollar : ℤ → Example
dollar cents = literal (Dollar cents)

abbrev pub ratio : ℤ → ℕ → Ratio
ratio n d = record { num = n; den = d }

abbrev pub rational : ℤ → ℕ → Example
rational n d = literal (Rational (ratio n d))

abbrev pub day : ℤ → Example
day n = literal (Day n)

-- ---- constants and reads

abbrev constants : List Value
constants = Boolean true ∷ Boolean false ∷ Int (pos 1) ∷ Dollar (pos 1) ∷ Rational (ratio (pos 1) 2) ∷ Day (pos 1) ∷ Text [] ∷ Choice 0 2 ∷ []

constants_are_complete : map (λ v. gives (literal v)) constants ≡ map Complete constants
constants_are_complete = refl

-- members 4 and 7 have 1.50 and 2.00
abbrev amounts : ℕ → Res
amounts m = if nat_eq m 4 then Complete (Dollar (pos 150)) else Complete (Dollar (pos 200))

-- a Placeholder among whole numbers
abbrev whole_numbers : ℕ → Res
whole_numbers m = if nat_eq m 4 then Placeholder (Int (negsuc 4)) else Complete (Int (pos 3))

-- member 4 is of age
abbrev of_age : ℕ → Res
of_age m = Complete (Boolean (nat_eq m 4))

reads : AreSame (
    (gives (dependency (Placeholder (Text []))), Placeholder (Text []))
    ∷ (complete_test (Complete (Boolean false)), Complete (Boolean true))
    ∷ (complete_test (Placeholder (Boolean true)), Complete (Boolean false))
    ∷ (collection_size (Placeholder (Members (4 ∷ 7 ∷ []))), Placeholder (Int (pos 2)))
    ∷ (sum_over types.Dollar (Complete (Members (4 ∷ 7 ∷ []))) amounts, Complete (Dollar (pos 350)))
    ∷ (sum_over types.Int (Complete (Members (4 ∷ 7 ∷ []))) whole_numbers, Placeholder (Int (negsuc 1)))
    ∷ (count_of (Complete (Members (4 ∷ 7 ∷ []))) of_age, Complete (Int (pos 1)))
    ∷ (count_of (Complete (Members [])) of_age, Complete (Int (pos 0)))
    ∷ (sum_over types.Dollar (Complete (Members [])) amounts, Complete (Dollar (pos 0)))
    ∷ (sum_over types.Int (Complete (Members [])) whole_numbers, Complete (Int (pos 0)))
    -- through an Item
    ∷ (through_item (Complete (Item 7)) amounts, Complete (Dollar (pos 200)))
    ∷ (through_item (Placeholder (Item 7)) amounts, Placeholder (Dollar (pos 200)))
    ∷ (through_item Incomplete amounts, Incomplete)
    ∷ []
    )
reads = refl

-- ---- Switch, All, Any

switches_and_junctions : AreGiven (
    (switch (a_case (dependency Incomplete) (int (pos 1)) (a_case yes (int (pos 2)) no_cases)), Incomplete)
    ∷ (switch (a_case no (int (pos 1)) (a_case yes (int (pos 2)) no_cases)), Complete (Int (pos 2)))
    ∷ (switch (a_case (dependency (Placeholder (Boolean false))) (int (pos 1)) (a_case yes (int (pos 2)) no_cases)), Placeholder (Int (pos 2)))
    ∷ (switch (a_case no (int (pos 1)) no_cases), Incomplete)
    ∷ (many All (operands (yes ∷ dependency Incomplete ∷ no ∷ [])), Complete (Boolean false))
    ∷ (many All (operands (yes ∷ dependency (Placeholder (Boolean true)) ∷ [])), Placeholder (Boolean true))
    ∷ (many Any (operands (dependency (Fault Overflow) ∷ yes ∷ [])), Complete (Boolean true))
    ∷ (many Any (operands (no ∷ no ∷ [])), Complete (Boolean false))
    ∷ []
    )
switches_and_junctions = refl

-- ---- strict nodes

strict_nodes : AreGiven (
    (one Not (dependency (Placeholder (Boolean false))), Placeholder (Boolean true))
    -- 10^15 - 1, and 1 more than the range has
    ∷ (many Add (operands (int (pos 999999999999998) ∷ int (pos 1) ∷ [])), Complete (Int (pos 999999999999999)))
    ∷ (many Add (operands (int (pos 999999999999999) ∷ int (pos 1) ∷ [])), Fault Overflow)
    ∷ (many Add (operands (int (pos 999999999999999) ∷ int (pos 1) ∷ int (negsuc 1) ∷ [])), Complete (Int (pos 999999999999998)))
    ∷ (many Add (operands (dollar (pos 150) ∷ dollar (negsuc 49) ∷ [])), Complete (Dollar (pos 100)))
    -- 1/3 + 1/6
    ∷ (many Add (operands (rational (pos 1) 3 ∷ rational (pos 1) 6 ∷ [])), Complete (Rational (ratio (pos 1) 2)))
    -- an operand without an answer comes before a fault
    ∷ (many Add (operands (dependency (Fault Overflow) ∷ dependency Incomplete ∷ [])), Incomplete)
    -- 10 - (3 + 4)
    ∷ (many Subtract (operands (int (pos 10) ∷ int (pos 3) ∷ int (pos 4) ∷ [])), Complete (Int (pos 3)))
    ∷ (many Subtract (operands (dollar (pos 100) ∷ dollar (pos 150) ∷ [])), Complete (Dollar (negsuc 49)))
    -- 1/3 - 1/2
    ∷ (many Subtract (operands (rational (pos 1) 3 ∷ rational (pos 1) 2 ∷ [])), Complete (Rational (ratio (negsuc 0) 6)))
    -- half of 0.05 is 0.03
    ∷ (two Multiply (dollar (pos 5)) (rational (pos 1) 2), Complete (Dollar (pos 3)))
    ∷ (two Multiply (int (pos 4)) (rational (pos 3) 2), Complete (Rational (ratio (pos 6) 1)))
    ∷ (two Divide (int (pos 4)) (int (negsuc 5)), Complete (Rational (ratio (negsuc 1) 3)))
    -- 1.00 in three
    ∷ (two Divide (dollar (pos 100)) (int (pos 3)), Complete (Dollar (pos 33)))
    ∷ (two Divide (dollar (pos 100)) (int (pos 0)), Fault ZeroDivide)
    ∷ (many GreaterOf (operands (int (pos 2) ∷ int (pos 7) ∷ int (negsuc 0) ∷ [])), Complete (Int (pos 7)))
    ∷ (many LesserOf (operands (rational (pos 1) 2 ∷ rational (pos 1) 3 ∷ [])), Complete (Rational (ratio (pos 1) 3)))
    ∷ (two Equal (literal (Text (97 ∷ []))) (literal (Text (97 ∷ []))), Complete (Boolean true))
    ∷ (two NotEqual (literal (Choice 0 1)) (literal (Choice 0 2)), Complete (Boolean true))
    -- 1.50 and -1.50: half away from zero
    ∷ (one Round (dollar (pos 150)), Complete (Dollar (pos 200)))
    ∷ (one Round (dollar (negsuc 149)), Complete (Dollar (negsuc 199)))
    ∷ (two AddDays (day (pos 0)) (int (pos 1)), Complete (Day (pos 1)))
    ∷ (two AddDays (day last_day) (int (pos 1)), Fault Overflow)
    ∷ (two DaysBetween (day (pos 3)) (day (pos 1)), Complete (Int (negsuc 1)))
    -- 30 percent of 10.01 and of 10.00, up to the dollar
    ∷ (two RoundUp (two Multiply (two Divide (dollar (pos 1001)) (dollar (pos 100))) (rational (pos 3) 10)) (dollar (pos 100)), Complete (Dollar (pos 400)))
    ∷ (two RoundUp (two Multiply (two Divide (dollar (pos 1000)) (dollar (pos 100))) (rational (pos 3) 10)) (dollar (pos 100)), Complete (Dollar (pos 300)))
    ∷ (two RoundDown (dollar (negsuc 0)) (dollar (pos 100)), Complete (Dollar (negsuc 99)))
    -- 12.50 and -12.50 to fives: half away from zero
    ∷ (two RoundNearest (dollar (pos 1250)) (dollar (pos 500)), Complete (Dollar (pos 1500)))
    ∷ (two RoundNearest (dollar (negsuc 1249)) (dollar (pos 500)), Complete (Dollar (negsuc 1499)))
    -- there is no multiple of such an amount
    ∷ (two RoundUp (dollar (pos 1001)) (dollar (pos 0)), Fault ZeroDivide)
    ∷ (two RoundNearest (dollar (pos 1001)) (dollar (negsuc 99)), Fault ZeroDivide)
    ∷ (two RoundUp (dollar (pos 999999999999999)) (dollar (pos 100)), Fault Overflow)
    ∷ []
    )
unfolding gcd
strict_nodes = refl

-- the first operand is on the left
abbrev both_ways : TwoOp → List Res
both_ways op = gives (two op (day (pos 1)) (day (pos 2))) ∷ gives (two op (day (pos 2)) (day (pos 2))) ∷ gives (two op (day (pos 2)) (day (pos 1))) ∷ []

orders : map both_ways (LessThan ∷ LessThanOrEqual ∷ GreaterThan ∷ GreaterThanOrEqual ∷ []) ≡
    (Complete (Boolean true) ∷ Complete (Boolean false) ∷ Complete (Boolean false) ∷ [])
    ∷ (Complete (Boolean true) ∷ Complete (Boolean true) ∷ Complete (Boolean false) ∷ [])
    ∷ (Complete (Boolean false) ∷ Complete (Boolean false) ∷ Complete (Boolean true) ∷ [])
    ∷ (Complete (Boolean false) ∷ Complete (Boolean true) ∷ Complete (Boolean true) ∷ [])
    ∷ []
orders = refl

-- 2199-12-31
year_of_last_day : gives (one YearOf (day last_day)) ≡ Complete (Int (pos 2199))
year_of_last_day = ap (λ y. Complete (Int y)) (year_of-date last_day (pos 2199) (pos 12) (pos 31) (of_2199, last_day_is_in_2199))
  where
    of_2199 : IsDateInRange (pos 2199) (pos 12) (pos 31)
    of_2199 = (((omega (arith, ints), omega (arith, ints)), (omega (arith, ints), omega (arith, ints)), (omega (arith, ints), omega (arith, ints))), (omega (arith, ints), omega (arith, ints)))

-- ---- Lookup

abbrev row : ℤ → ℤ → Row
row size cents = record { key = size; value = Dollar cents }

-- the most aid for a household of one, and for one of two or more
abbrev most_aid : LookupTable
most_aid = record {
  name = codes "mostAid";
  from = types.Int;
  to = types.Dollar;
  rows = row (pos 1) (pos 29100) ∷ row (pos 2) (pos 53500) ∷ [];
  below = Dollar (pos 0);
}

abbrev aid_for : Example → Example
aid_for size = one (Lookup most_aid) size

lookups : AreGiven (
    (aid_for (int (pos 1)), Complete (Dollar (pos 29100)))
    ∷ (aid_for (int (pos 2)), Complete (Dollar (pos 53500)))
    ∷ (aid_for (int (pos 0)), Complete (Dollar (pos 0)))
    ∷ (aid_for (int (pos 7)), Complete (Dollar (pos 53500)))
    ∷ (aid_for (dependency Incomplete), Incomplete)
    ∷ (aid_for (dependency (Placeholder (Int (pos 1)))), Placeholder (Dollar (pos 29100)))
    ∷ (aid_for (dependency (Fault Overflow)), Fault Overflow)
    ∷ []
    )
lookups = refl

-- the node, and its operand
weight_of_lookup : weight example_env 0 (aid_for (int (pos 7))) ≡ 2
weight_of_lookup = refl

-- ---- Filter and Find

abbrev three : Res
three = Complete (Members (4 ∷ 5 ∷ 7 ∷ []))

-- what a condition reads at members 4, 5 and 7
abbrev at_members : Res → Res → Res → Example
at_members a b c = read (λ m. if nat_eq m 4 then a else if nat_eq m 5 then b else c)

abbrev true_ : Res
true_ = Complete (Boolean true)

abbrev false_ : Res
false_ = Complete (Boolean false)

filters : AreGiven (
    (pick Filter three (at_members true_ false_ true_), Complete (Members (4 ∷ 7 ∷ [])))
    ∷ (pick Filter three (at_members true_ (Placeholder (Boolean false)) true_), Placeholder (Members (4 ∷ 7 ∷ [])))
    ∷ (pick Filter three (at_members (Fault ZeroDivide) Incomplete true_), Incomplete)
    ∷ (pick Filter (Placeholder (Members (4 ∷ []))) yes, Placeholder (Members (4 ∷ [])))
    ∷ (pick Find three (at_members false_ true_ Incomplete), Complete (Item 5))
    ∷ (pick Find three (at_members (Placeholder (Boolean false)) true_ Incomplete), Placeholder (Item 5))
    ∷ (pick Find three no, Incomplete)
    ∷ []
    )
filters = refl

-- ---- weight

-- the Filter, and for each of three members the Not and what it reads
weight_of_filter : weight example_env 0 (pick Filter three (one Not (at_members true_ true_ true_))) ≡ 7
weight_of_filter = refl

-- a collection without a value counts as one without members
weight_of_find : weight example_env 0 (pick Find Incomplete yes) ≡ 1
weight_of_find = refl

-- a case isn't a node
weight_of_switch : weight example_env 0 (switch (a_case yes (two Equal no no) no_cases)) ≡ 5
weight_of_switch = refl
