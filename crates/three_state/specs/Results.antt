-- The algebra of results: each rule as a function of whole lists of results, by the first case that fits.
-- The rules are total: a value that isn't Boolean counts as false, and one that isn't a list of members as a list of none.
use Rattle.std.specs.Prelude.{ℕ, pos, Bool, true, false, not, if◌then◌else◌, List, [], ◌∷◌, map, filter, count_by, Option, Some, None, Result, Ok, Err}
use Rattle.std.specs.List.{list_any, list_all}
use Rattle.fact_values.specs.declared.fault.ValueFault.{ValueFault}
use Rattle.fact_values.specs.declared.value.Value.{Value}
use Rattle.fact_values.specs.declared.value.Value.TheVariants.{Boolean, Int, Members, Item}
use Rattle.fact_values.specs.Values.{HoldsMemory}
use Rattle.three_state.specs.declared.res.Res.{Res}
use Rattle.three_state.specs.declared.res.Res.TheVariants.{Complete, Placeholder, Incomplete, Fault}
use Rattle.three_state.specs.declared.strict.Verdict.{Verdict}
use Rattle.three_state.specs.declared.strict.Verdict.TheVariants as verdict

-- ---- one result

-- a complete value becomes a placeholder
abbrev pub down : Res → Res
down (Complete v) = Placeholder v
down (Placeholder v) = Placeholder v
down Incomplete = Incomplete
down (Fault fault) = Fault fault

abbrev pub is_complete : Res → Bool
is_complete (Complete v) = true
is_complete _ = false

abbrev pub is_placeholder : Res → Bool
is_placeholder (Placeholder v) = true
is_placeholder _ = false

abbrev pub is_incomplete : Res → Bool
is_incomplete Incomplete = true
is_incomplete _ = false

-- it has a value, and that holds memory
abbrev pub ValueHoldsMemory : Res → Type 0
ValueHoldsMemory (Complete v) = HoldsMemory v
ValueHoldsMemory (Placeholder v) = HoldsMemory v
ValueHoldsMemory _ = ⊥

abbrev pub truth : Value → Bool
truth (Boolean b) = b
truth _ = false

abbrev pub is_truth : Bool → Value → Bool
is_truth true v = truth v
is_truth false v = not (truth v)

-- complete, with this truth
abbrev pub is_complete_at : Bool → Res → Bool
is_complete_at b (Complete v) = is_truth b v
is_complete_at b _ = false

-- a placeholder, with this truth
abbrev pub is_placeholder_at : Bool → Res → Bool
is_placeholder_at b (Placeholder v) = is_truth b v
is_placeholder_at b _ = false

-- true, complete or as a placeholder
abbrev pub is_true : Res → Bool
is_true (Complete v) = truth v
is_true (Placeholder v) = truth v
is_true _ = false

abbrev pub members_in : Value → List ℕ
members_in (Members ms) = ms
members_in _ = []

-- what is read through a result: one without a value is given itself, and what a placeholder leads to is a placeholder at most
abbrev pub through : Res → (Value → Res) → Res
through (Complete v) read = read v
through (Placeholder v) read = down (read v)
through Incomplete read = Incomplete
through (Fault fault) read = Fault fault

-- ---- the first fault of a list

abbrev pub fault_or : Res → Option ValueFault → Option ValueFault
fault_or (Fault fault) rest = Some fault
fault_or _ rest = rest

abbrev pub first_fault : List Res → Option ValueFault
first_fault [] = None
first_fault (r ∷ rs) = fault_or r (first_fault rs)

-- the fault, and otherwise a result
abbrev pub fault_else : Option ValueFault → Res → Res
fault_else (Some fault) r = Fault fault
fault_else None r = r

-- ---- strict operations

abbrev pub fault_or_go : Option ValueFault → Bool → Verdict
fault_or_go (Some fault) complete = verdict.Fault fault
fault_or_go None complete = verdict.Go complete

-- some operand incomplete; else the first fault; else the operation is done, and the flag says whether all are complete
abbrev pub verdict_of : List Res → Verdict
verdict_of rs = if list_any is_incomplete rs then verdict.Incomplete else fault_or_go (first_fault rs) (list_all is_complete rs)

-- an operation that was done: its fault, or its value
abbrev pub outcome : Bool → Result Value ValueFault → Res
outcome true (Ok v) = Complete v
outcome false (Ok v) = Placeholder v
outcome complete (Err fault) = Fault fault

abbrev pub after_verdict : Verdict → Result Value ValueFault → Res
after_verdict (verdict.Go complete) done = outcome complete done
after_verdict verdict.Incomplete done = Incomplete
after_verdict (verdict.Fault fault) done = Fault fault

-- the values of the results that have one
abbrev pub value_before : Res → List Value → List Value
value_before (Complete v) vs = v ∷ vs
value_before (Placeholder v) vs = v ∷ vs
value_before _ vs = vs

abbrev pub values_of : List Res → List Value
values_of [] = []
values_of (r ∷ rs) = value_before r (values_of rs)

-- an operation on operands all of which it needs
abbrev pub strict : (List Value → Result Value ValueFault) → List Res → Res
strict op rs = after_verdict (verdict_of rs) (op (values_of rs))

-- ---- All and Any: the truth that decides is false for All, and true for Any

abbrev pub junction : Bool → List Res → Res
junction decider rs =
    if list_any (is_complete_at decider) rs then Complete (Boolean decider)
    else if list_any is_incomplete rs then Incomplete
    else fault_else (first_fault rs)
    (if list_any (is_placeholder_at decider) rs then Placeholder (Boolean decider)
    else if list_any is_placeholder rs then Placeholder (Boolean (not decider))
    else Complete (Boolean (not decider)))

abbrev pub all_of : List Res → Res
all_of rs = junction false rs

abbrev pub any_of : List Res → Res
any_of rs = junction true rs

-- ---- Switch: conditions, each with the result of its case, in order

-- true gives the case's result, and false what the cases after it give. A placeholder's truth makes that a placeholder at most
abbrev pub switch_case : Res → Res → Res → Res
switch_case condition given rest = through condition (λ v. if truth v then given else rest)

abbrev pub switch_of : List (Res × Res) → Res
switch_of [] = Incomplete
switch_of (c ∷ cs) = switch_case c.0 c.1 (switch_of cs)

-- ---- Filter and Find: a collection, and the condition's result at each of its members

-- the members at which the condition is true
abbrev pub kept : (ℕ → Res) → List ℕ → List ℕ
kept condition ms = filter (λ m. is_true (condition m)) ms

-- all the conditions are needed
abbrev pub filter_members : (ℕ → Res) → List ℕ → Res
filter_members condition ms = strict (λ _. Ok (Members (kept condition ms))) (map condition ms)

abbrev pub filter_of : Res → (ℕ → Res) → Res
filter_of source condition = through source (λ v. filter_members condition (members_in v))

-- a Switch whose cases give the members
abbrev pub find_cases : (ℕ → Res) → List ℕ → List (Res × Res)
find_cases condition [] = []
find_cases condition (m ∷ ms) = (condition m, Complete (Item m)) ∷ find_cases condition ms

abbrev pub find_member : (ℕ → Res) → List ℕ → Res
find_member condition ms = switch_of (find_cases condition ms)

abbrev pub find_of : Res → (ℕ → Res) → Res
find_of source condition = through source (λ v. find_member condition (members_in v))

-- ---- CollectionSum and Count: the operands are the collection, and then the field of each of its members

-- a collection without a value has no members
abbrev pub members_of : Res → List ℕ
members_of (Complete v) = members_in v
members_of (Placeholder v) = members_in v
members_of _ = []

abbrev pub field_operands : Res → (ℕ → Res) → List Res
field_operands source field = source ∷ map field (members_of source)

-- the values of the fields, behind that of the collection
abbrev pub fields_in : List Value → List Value
fields_in [] = []
fields_in (collection ∷ fields) = fields

abbrev pub strict_over_fields : (List Value → Result Value ValueFault) → Res → (ℕ → Res) → Res
strict_over_fields op source field = strict (λ vs. op (fields_in vs)) (field_operands source field)

-- how many fields are true
abbrev pub count_of : Res → (ℕ → Res) → Res
count_of source field = strict_over_fields (λ fields. Ok (Int (pos (count_by truth fields)))) source field
