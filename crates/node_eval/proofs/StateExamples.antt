-- Each kind of node over cells, by example: what it gives in each of the four results, and how many nodes are visited.
use Rattle.std.proofs.Common.{◌≡◌, ℕ, ℤ, pos, negsuc, Bool, true, false, List, [], ◌∷◌, map, replicate, Some, None, refl}
use Rattle.fact_values.specs.Days.{year_of}
use Rattle.fact_values.specs.Rationals.{gcd}
use Rattle.fact_values.specs.declared.fault.ValueFault.TheVariants.{Overflow, ZeroDivide}
use Rattle.fact_values.specs.declared.value.Value.{Value}
use Rattle.fact_values.specs.declared.value.Value.TheVariants.{Boolean, Int, Dollar, Rational, Day, Text, Choice, Members, Item}
use Rattle.dict_source.specs.Tree.{literal, read, switch, many, one, two, pick, no_cases, a_case}
use Rattle.dict_source.specs.declared.operators.ManyOp.TheVariants.{All, Any, Add, Subtract, GreaterOf, LesserOf}
use Rattle.dict_source.specs.declared.operators.OneOp.TheVariants.{Not, Round, YearOf}
use Rattle.dict_source.specs.declared.operators.TwoOp.TheVariants.{Multiply, Divide, AddDays, Equal, NotEqual, GreaterThan, LessThan, GreaterThanOrEqual, LessThanOrEqual}
use Rattle.dict_source.specs.declared.operators.PickOp.TheVariants.{Filter, Find}
use Rattle.three_state.specs.declared.res.Res.{Res}
use Rattle.three_state.specs.declared.res.Res.TheVariants.{Complete, Placeholder, Incomplete, Fault}
use Rattle.evaluation.specs.Over.{over}
use Rattle.evaluation.specs.Visits.{visits}
use Rattle.node_eval.specs.Dependencies.{node_env}
use Rattle.node_eval.specs.View.{Compiled, trees_of}
use Rattle.node_eval.specs.declared.node.NodeRead.TheVariants.{Dependency, IsComplete, CollectionSize, SumInt, SumDollar, Count}
use Rattle.node_eval.specs.declared.node.ResolvedPath.{ResolvedPath}
use Rattle.node_eval.specs.declared.node.ResolvedPath.TheVariants.{Global, Same, Inner, Each, Through, SameThrough}
use Rattle.node_eval.proofs.CellExamples.{Column, results_in}

-- ---- cells: of members 1, 2, 3 and 4 one is complete, one rests on a placeholder, one is missing, and one is at fault

abbrev four_states : Value → List (ℕ × Res)
four_states v = (1, Complete v) ∷ (2, Placeholder v) ∷ (4, Fault ZeroDivide) ∷ []

-- one that stands once
abbrev once : Res → List (ℕ × Res)
once r = (0, r) ∷ []

-- of members 11, 12 and 13
abbrev at_members : Res → Res → Res → List (ℕ × Res)
at_members a b c = (11, a) ∷ (12, b) ∷ (13, c) ∷ []

abbrev three : Value
three = Members (11 ∷ 12 ∷ 13 ∷ [])

abbrev bool : Bool → Res
bool b = Complete (Boolean b)

abbrev int : ℤ → Res
int n = Complete (Int n)

abbrev dollar : ℤ → Res
dollar cents = Complete (Dollar cents)

-- facts 1 to 4 are facts of members 1 to 4; 21 to 24 collections, and 31 to 34 items, in each of the four states, 23 and 33 without a
-- cell; 41 to 44 whole numbers, 51 to 54 conditions and 61 amounts of the collections' members
abbrev columns : List Column
columns =
    record { fact = 1; cells = four_states (Boolean true) }
    ∷ record { fact = 2; cells = four_states (Int (pos 7)) }
    ∷ record { fact = 3; cells = four_states (Dollar (pos 150)) }
    ∷ record { fact = 4; cells = four_states (Day (pos 7)) }
    ∷ record { fact = 21; cells = once (Complete three) }
    ∷ record { fact = 22; cells = once (Placeholder three) }
    ∷ record { fact = 24; cells = once (Fault Overflow) }
    ∷ record { fact = 31; cells = once (Complete (Item 1)) }
    ∷ record { fact = 32; cells = once (Complete (Item 2)) }
    ∷ record { fact = 33; cells = once (Complete (Item 3)) }
    ∷ record { fact = 34; cells = once (Complete (Item 4)) }
    ∷ record { fact = 35; cells = once (Placeholder (Item 1)) }
    ∷ record { fact = 37; cells = once (Fault Overflow) }
    ∷ record { fact = 38; cells = four_states (Item 2) }
    ∷ record { fact = 41; cells = at_members (int (pos 1)) (int (pos 2)) (int (pos 3)) }
    ∷ record { fact = 42; cells = at_members (int (pos 1)) (Placeholder (Int (pos 2))) (int (pos 3)) }
    ∷ record { fact = 43; cells = (11, int (pos 1)) ∷ (13, int (pos 3)) ∷ [] }
    ∷ record { fact = 44; cells = at_members (int (pos 1)) (Fault ZeroDivide) (int (pos 3)) }
    ∷ record { fact = 51; cells = at_members (bool false) (bool true) (bool true) }
    ∷ record { fact = 52; cells = at_members (Placeholder (Boolean false)) (bool true) (bool true) }
    ∷ record { fact = 53; cells = (12, bool true) ∷ (13, bool true) ∷ [] }
    ∷ record { fact = 54; cells = at_members (Fault ZeroDivide) (bool true) (bool true) }
    ∷ record { fact = 61; cells = at_members (dollar (pos 999999999999999)) (dollar (pos 1)) (dollar (negsuc 0)) }
    ∷ []

-- ---- what a node gives in the slot of a member, and how many nodes are visited

abbrev Given : Type 0
Given = Res × ℕ

abbrev given_at : ℕ → Compiled → Given
given_at m t = (over (node_env (results_in columns)) (record { own = m; inner = 0 }) t, visits (node_env (results_in columns)) (record { own = m; inner = 0 }) t)

-- in the slots of members 1 to 4
abbrev in_each_state : Compiled → List Given
in_each_state t = map (λ m. given_at m t) (1 ∷ 2 ∷ 3 ∷ 4 ∷ [])

-- where they are four
abbrev each_given : List Compiled → List Given
each_given ts = map (given_at 0) ts

-- a result in each of the four states
abbrev four : ℕ → Value → List Given
four steps v = (Complete v, steps) ∷ (Placeholder v, steps) ∷ (Incomplete, steps) ∷ (Fault ZeroDivide, steps) ∷ []

abbrev dependency : ResolvedPath → Compiled
dependency r = read (Dependency, r)

abbrev yes : Compiled
yes = literal (Boolean true)

abbrev no : Compiled
no = literal (Boolean false)

abbrev ratio : ℤ → ℕ → Value
ratio n d = Rational (record { num = n; den = d })

-- ---- constants and reads of one fact

abbrev constants : List Value
constants = Boolean false ∷ Int (pos 1) ∷ Dollar (pos 1) ∷ ratio (pos 1) 2 ∷ Day (pos 1) ∷ Text (97 ∷ []) ∷ Choice 0 2 ∷ []

constants_are_complete : each_given (map literal constants) ≡ map (λ v. (Complete v, 1)) constants
constants_are_complete = refl

reads_of_a_fact : map in_each_state (dependency (Same 2) ∷ read (IsComplete, Same 2) ∷ []) ≡
    four 1 (Int (pos 7))
    ∷ ((bool true, 1) ∷ (bool false, 1) ∷ (bool false, 1) ∷ (bool false, 1) ∷ [])
    ∷ []
reads_of_a_fact = refl

-- an item that is complete leads to each state of the field; one that isn't gives its own, whatever the field
reads_through_an_item : each_given (map (λ n. dependency (Through n 2)) (31 ∷ 32 ∷ 33 ∷ 34 ∷ 35 ∷ 36 ∷ 37 ∷ [])) ≡
    (int (pos 7), 1) ∷ (Placeholder (Int (pos 7)), 1) ∷ (Incomplete, 1) ∷ (Fault ZeroDivide, 1)
    ∷ (Placeholder (Int (pos 7)), 1) ∷ (Incomplete, 1) ∷ (Fault Overflow, 1) ∷ []
reads_through_an_item = refl

whether_a_field_is_complete : each_given (map (λ n. read (IsComplete, Through n 2)) (31 ∷ 32 ∷ 33 ∷ 34 ∷ 35 ∷ 36 ∷ 37 ∷ [])) ≡
    (bool true, 1) ∷ replicate 6 (bool false, 1)
whether_a_field_is_complete = refl

-- the slot's own item, which names the member 2
reads_through_the_members_item : map in_each_state (dependency (SameThrough 38 1) ∷ dependency (SameThrough 38 5) ∷ read (IsComplete, SameThrough 38 2) ∷ []) ≡
    ((Placeholder (Boolean true), 1) ∷ (Placeholder (Boolean true), 1) ∷ (Incomplete, 1) ∷ (Fault ZeroDivide, 1) ∷ [])
    -- the field has no cell
    ∷ ((Incomplete, 1) ∷ (Incomplete, 1) ∷ (Incomplete, 1) ∷ (Fault ZeroDivide, 1) ∷ [])
    ∷ replicate 4 (bool false, 1)
    ∷ []
reads_through_the_members_item = refl

-- ---- All and Any visit each operand, also behind one that decides

junctions_that_go_on : map in_each_state (many All (trees_of (dependency (Same 1) ∷ yes ∷ [])) ∷ many Any (trees_of (one Not (dependency (Same 1)) ∷ no ∷ [])) ∷ []) ≡
    four 3 (Boolean true)
    ∷ four 4 (Boolean false)
    ∷ []
junctions_that_go_on = refl

junctions_that_are_decided : map in_each_state (many All (trees_of (no ∷ dependency (Same 1) ∷ [])) ∷ many Any (trees_of (yes ∷ dependency (Same 1) ∷ [])) ∷ []) ≡
    replicate 4 (bool false, 3)
    ∷ replicate 4 (bool true, 3)
    ∷ []
junctions_that_are_decided = refl

-- ---- strict nodes, with an operand in each of the four states

strict_nodes : map in_each_state (
    many Add (trees_of (dependency (Same 2) ∷ literal (Int (pos 2)) ∷ []))
    ∷ many Subtract (trees_of (literal (Dollar (pos 200)) ∷ dependency (Same 3) ∷ []))
    ∷ many GreaterOf (trees_of (dependency (Same 2) ∷ literal (Int (pos 2)) ∷ []))
    ∷ many LesserOf (trees_of (dependency (Same 2) ∷ literal (Int (pos 2)) ∷ []))
    ∷ one Not (dependency (Same 1))
    ∷ one Round (dependency (Same 3))
    ∷ two Multiply (dependency (Same 3)) (literal (ratio (pos 1) 2))
    ∷ two Divide (dependency (Same 2)) (literal (Int (pos 14)))
    ∷ two AddDays (dependency (Same 4)) (literal (Int (pos 2)))
    ∷ two Equal (dependency (Same 2)) (literal (Int (pos 7)))
    ∷ two NotEqual (dependency (Same 2)) (literal (Int (pos 7)))
    ∷ two GreaterThan (dependency (Same 2)) (literal (Int (pos 7)))
    ∷ two LessThan (dependency (Same 2)) (literal (Int (pos 8)))
    ∷ two GreaterThanOrEqual (dependency (Same 2)) (literal (Int (pos 7)))
    ∷ two LessThanOrEqual (dependency (Same 2)) (literal (Int (pos 6)))
    ∷ []
    ) ≡
    four 3 (Int (pos 9))
    ∷ four 3 (Dollar (pos 50))
    ∷ four 3 (Int (pos 7))
    ∷ four 3 (Int (pos 2))
    ∷ four 2 (Boolean false)
    ∷ four 2 (Dollar (pos 200))
    ∷ four 3 (Dollar (pos 75))
    ∷ four 3 (ratio (pos 1) 2)
    ∷ four 3 (Day (pos 9))
    ∷ four 3 (Boolean true)
    ∷ four 3 (Boolean false)
    ∷ four 3 (Boolean false)
    ∷ four 3 (Boolean true)
    ∷ four 3 (Boolean true)
    ∷ four 3 (Boolean false)
    ∷ []
unfolding gcd
strict_nodes = refl

-- the calendar doesn't compute
years : (n : ℤ) → map (λ r. over (node_env (λ s. r)) (record { own = 0; inner = 0 }) (one YearOf (dependency (Global 1)))) (Some (Complete (Day n)) ∷ Some (Placeholder (Day n)) ∷ None ∷ Some (Fault Overflow) ∷ []) ≡
    int (year_of n) ∷ Placeholder (Int (year_of n)) ∷ Incomplete ∷ Fault Overflow ∷ []
years n = refl

-- ---- a Switch: up to the case that decides

-- the outcome of the first case is 5, that of the case behind it 6
abbrev cases_behind : Compiled → Compiled
cases_behind t = switch (a_case t (literal (Int (pos 5))) (a_case yes (literal (Int (pos 6))) no_cases))

switches : map in_each_state (cases_behind (dependency (Same 1)) ∷ cases_behind (one Not (dependency (Same 1))) ∷ []) ≡
    -- taken: the condition and the outcome
    ((int (pos 5), 3) ∷ (Placeholder (Int (pos 5)), 3) ∷ (Incomplete, 2) ∷ (Fault ZeroDivide, 2) ∷ [])
    -- passed: the condition of two nodes, and the next case
    ∷ ((int (pos 6), 5) ∷ (Placeholder (Int (pos 6)), 5) ∷ (Incomplete, 3) ∷ (Fault ZeroDivide, 3) ∷ [])
    ∷ []
switches = refl

-- the outcome in each state
outcomes : in_each_state (switch (a_case yes (dependency (Same 2)) no_cases)) ≡ four 3 (Int (pos 7))
outcomes = refl

-- ---- over collections

-- the collection in each of the four states
abbrev of_each : (ℕ → Compiled) → List Given
of_each t = each_given (map t (21 ∷ 22 ∷ 23 ∷ 24 ∷ []))

over_collections : map of_each (
    (λ c. read (CollectionSize, Global c))
    ∷ (λ c. read (SumInt, Each c 41))
    ∷ (λ c. read (SumDollar, Each c 61))
    ∷ (λ c. read (Count, Each c 51))
    ∷ (λ c. pick Filter (Global c) (dependency (Inner 51)))
    ∷ (λ c. pick Find (Global c) (dependency (Inner 51)))
    ∷ []
    ) ≡
    ((int (pos 3), 1) ∷ (Placeholder (Int (pos 3)), 1) ∷ (Incomplete, 1) ∷ (Fault Overflow, 1) ∷ [])
    ∷ ((int (pos 6), 1) ∷ (Placeholder (Int (pos 6)), 1) ∷ (Incomplete, 1) ∷ (Fault Overflow, 1) ∷ [])
    -- the partial sums leave the range
    ∷ ((dollar (pos 999999999999999), 1) ∷ (Placeholder (Dollar (pos 999999999999999)), 1) ∷ (Incomplete, 1) ∷ (Fault Overflow, 1) ∷ [])
    ∷ ((int (pos 2), 1) ∷ (Placeholder (Int (pos 2)), 1) ∷ (Incomplete, 1) ∷ (Fault Overflow, 1) ∷ [])
    -- the condition is visited at each member
    ∷ ((Complete (Members (12 ∷ 13 ∷ [])), 4) ∷ (Placeholder (Members (12 ∷ 13 ∷ [])), 4) ∷ (Incomplete, 1) ∷ (Fault Overflow, 1) ∷ [])
    -- up to the one that is found
    ∷ ((Complete (Item 12), 3) ∷ (Placeholder (Item 12), 3) ∷ (Incomplete, 1) ∷ (Fault Overflow, 1) ∷ [])
    ∷ []
over_collections = refl

-- the field of one member in each of the four states
fields_of_members : map each_given (
    map (λ n. read (SumInt, Each 21 n)) (41 ∷ 42 ∷ 43 ∷ 44 ∷ [])
    ∷ map (λ n. read (Count, Each 21 n)) (51 ∷ 52 ∷ 53 ∷ 54 ∷ [])
    ∷ map (λ n. pick Filter (Global 21) (dependency (Inner n))) (51 ∷ 52 ∷ 53 ∷ 54 ∷ [])
    ∷ map (λ n. pick Find (Global 21) (dependency (Inner n))) (51 ∷ 52 ∷ 53 ∷ 54 ∷ [])
    ∷ []
    ) ≡
    four 1 (Int (pos 6))
    ∷ four 1 (Int (pos 2))
    ∷ four 4 (Members (12 ∷ 13 ∷ []))
    -- where the first member's condition isn't known, no other is asked
    ∷ ((Complete (Item 12), 3) ∷ (Placeholder (Item 12), 3) ∷ (Incomplete, 2) ∷ (Fault ZeroDivide, 2) ∷ [])
    ∷ []
fields_of_members = refl

-- at every member, where none is found, and at one where the first is
up_to_the_found_one : each_given (pick Find (Global 21) no ∷ pick Find (Global 21) (one Not (dependency (Inner 51))) ∷ []) ≡ (Incomplete, 4) ∷ (Complete (Item 11), 3) ∷ []
up_to_the_found_one = refl

-- operands whose partial sums leave the range
sums_over_the_range : each_given (
    many Add (trees_of (map (λ n. literal (Int n)) (pos 999999999999999 ∷ pos 1 ∷ negsuc 0 ∷ [])))
    ∷ many Add (trees_of (map (λ n. literal (Int n)) (pos 999999999999999 ∷ pos 1 ∷ [])))
    ∷ []
    ) ≡ (int (pos 999999999999999), 4) ∷ (Fault Overflow, 3) ∷ []
sums_over_the_range = refl
