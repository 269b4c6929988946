-- Laws of the rules, and of the forms in which loops take them.
use Rattle.std.specs.Prelude.{◌≡◌, ℕ, Bool, true, not, IsTrue, if◌then◌else◌, List, [], ◌∷◌, ◌++◌, Result, Ok}
use Rattle.std.specs.List.{list_all}
use Rattle.fact_values.specs.declared.fault.ValueFault.{ValueFault}
use Rattle.fact_values.specs.declared.value.Value.{Value}
use Rattle.fact_values.specs.declared.value.Value.TheVariants.{Boolean}
use Rattle.three_state.specs.declared.res.Res.{Res}
use Rattle.three_state.specs.declared.res.Res.TheVariants.{Complete, Placeholder, Incomplete, Fault}
use Rattle.three_state.specs.declared.strict.Verdict.TheVariants as verdict
use Rattle.three_state.specs.Results.{down, filter_members, is_complete, junction, strict, switch_of, truth, values_of, verdict_of}
use Rattle.three_state.specs.Folds.{down_unless, filter_on, junction_next, junction_on, switch_on, verdict_next, verdict_on}

-- ---- down

abbrev pub DownIsNeverComplete : Type 0
DownIsNeverComplete = (r : Res) (v : Value) → down r ≡ Complete v → ⊥

abbrev pub DownTwiceIsDown : Type 0
DownTwiceIsDown = (r : Res) → down (down r) ≡ down r

-- ---- complete operands

abbrev pub AreComplete : List Res → Type 0
AreComplete rs = IsTrue (list_all is_complete rs)

abbrev pub JunctionOfComplete : Type 0
JunctionOfComplete = (decider : Bool) (rs : List Res) → AreComplete rs → IsTrue (is_complete (junction decider rs))

-- where the operation has a value
abbrev pub StrictOfComplete : Type 0
StrictOfComplete = (op : List Value → Result Value ValueFault) (rs : List Res) (v : Value) → AreComplete rs → op (values_of rs) ≡ Ok v → strict op rs ≡ Complete v

-- a complete result has complete operands
abbrev pub CompleteStrict : Type 0
CompleteStrict = (op : List Value → Result Value ValueFault) (rs : List Res) (v : Value) → strict op rs ≡ Complete v → AreComplete rs

-- ---- All and Any in a loop

abbrev pub JunctionStarts : Type 0
JunctionStarts = (decider : Bool) (rs : List Res) → junction_on decider (Complete (Boolean (not decider))) rs ≡ junction decider rs

abbrev pub JunctionGoesOn : Type 0
JunctionGoesOn = (decider : Bool) (rs : List Res) (r : Res) → junction decider (rs ++ r ∷ []) ≡ junction_next decider (junction decider rs) r

-- what was seen of a list counts as one operand before the rest
abbrev pub JunctionOfSeen : Type 0
JunctionOfSeen = (decider : Bool) (rs ss : List Res) → junction decider (junction decider rs ∷ ss) ≡ junction decider (rs ++ ss)

-- ---- a strict operation in a loop

abbrev pub VerdictStarts : Type 0
VerdictStarts = (rs : List Res) → verdict_on (verdict.Go true) rs ≡ verdict_of rs

abbrev pub VerdictGoesOn : Type 0
VerdictGoesOn = (rs : List Res) (r : Res) → verdict_of (rs ++ r ∷ []) ≡ verdict_next (verdict_of rs) r

-- nothing that follows changes it
abbrev pub IncompleteStays : Type 0
IncompleteStays = (rs : List Res) → verdict_on verdict.Incomplete rs ≡ verdict.Incomplete

-- ---- a Switch in a loop: what is left after a case

abbrev pub SwitchStarts : Type 0
SwitchStarts = (cs : List (Res × Res)) → switch_on true cs ≡ switch_of cs

abbrev pub switch_next : Bool → Res → Res → List (Res × Res) → Res
switch_next complete (Complete v) given cs = if truth v then down_unless complete given else switch_on complete cs
switch_next complete (Placeholder v) given cs = if truth v then down given else down (switch_of cs)
switch_next complete Incomplete given cs = Incomplete
switch_next complete (Fault fault) given cs = Fault fault

abbrev pub SwitchGoesOn : Type 0
SwitchGoesOn = (complete : Bool) (condition given : Res) (cs : List (Res × Res)) → switch_on complete ((condition, given) ∷ cs) ≡ switch_next complete condition given cs

-- ---- a Filter in a loop

abbrev pub FilterStarts : Type 0
FilterStarts = (condition : ℕ → Res) (ms : List ℕ) → filter_on condition [] (verdict.Go true) ms ≡ filter_members condition ms
