-- How results stand when those that aren't complete become others: a complete one stays.
use Rattle.std.specs.Prelude.{◌≡◌, ℕ, Bool, List, [], ◌∷◌, Result}
use Rattle.fact_values.specs.declared.fault.ValueFault.{ValueFault}
use Rattle.fact_values.specs.declared.value.Value.{Value}
use Rattle.three_state.specs.declared.res.Res.{Res}
use Rattle.three_state.specs.declared.res.Res.TheVariants.{Complete}
use Rattle.three_state.specs.Results.{filter_of, find_of, junction, strict, strict_over_fields, switch_case, switch_of, through}

-- where a is complete, b is the same
pub record Keeps (a b : Res) : Type 0 where
  pub keeps : (v : Value) → a ≡ Complete v → b ≡ Complete v

-- two lists of one length, result by result
abbrev pub KeepsAll : List Res → List Res → Type 0
KeepsAll [] [] = Unit {0}
KeepsAll (a ∷ xs) (b ∷ ys) = Keeps a b × KeepsAll xs ys
KeepsAll _ _ = ⊥

-- two Switches of one length, condition by condition and case by case
abbrev pub KeepsCases : List (Res × Res) → List (Res × Res) → Type 0
KeepsCases [] [] = Unit {0}
KeepsCases (c ∷ cs) (d ∷ ds) = Keeps c.0 d.0 × (Keeps c.1 d.1 × KeepsCases cs ds)
KeepsCases _ _ = ⊥

-- ---- each rule keeps what it keeps of its operands

abbrev pub JunctionKeeps : Type 0
JunctionKeeps = (decider : Bool) (xs ys : List Res) → KeepsAll xs ys → Keeps (junction decider xs) (junction decider ys)

abbrev pub StrictKeeps : Type 0
StrictKeeps = (op : List Value → Result Value ValueFault) (xs ys : List Res) → KeepsAll xs ys → Keeps (strict op xs) (strict op ys)

-- a case before the rest, for an induction over cases
abbrev pub CaseKeeps : Type 0
CaseKeeps = (condition condition' given given' rest rest' : Res) → Keeps condition condition' → Keeps given given' → Keeps rest rest'
    → Keeps (switch_case condition given rest) (switch_case condition' given' rest')

abbrev pub SwitchKeeps : Type 0
SwitchKeeps = (cs ds : List (Res × Res)) → KeepsCases cs ds → Keeps (switch_of cs) (switch_of ds)

abbrev pub ThroughKeeps : Type 0
ThroughKeeps = (source source' : Res) (read read' : Value → Res) → Keeps source source' → ((v : Value) → Keeps (read v) (read' v))
    → Keeps (through source read) (through source' read')

abbrev pub FilterKeeps : Type 0
FilterKeeps = (source source' : Res) (condition condition' : ℕ → Res) → Keeps source source' → ((m : ℕ) → Keeps (condition m) (condition' m))
    → Keeps (filter_of source condition) (filter_of source' condition')

abbrev pub FindKeeps : Type 0
FindKeeps = (source source' : Res) (condition condition' : ℕ → Res) → Keeps source source' → ((m : ℕ) → Keeps (condition m) (condition' m))
    → Keeps (find_of source condition) (find_of source' condition')

abbrev pub FieldsKeep : Type 0
FieldsKeep = (op : List Value → Result Value ValueFault) (source source' : Res) (field field' : ℕ → Res) → Keeps source source' → ((m : ℕ) → Keeps (field m) (field' m))
    → Keeps (strict_over_fields op source field) (strict_over_fields op source' field')
