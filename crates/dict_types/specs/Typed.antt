-- A dictionary's types, constants and limits, or its first fault of paths, types and limits.
use Rattle.std.specs.Prelude.{◌≡◌, ℕ, zero, suc, ◌≤◌, List, [], ◌∷◌, length, slice_get, Option, Some, None, option_and_then, Result, Ok, Err, ⊤}
use Rattle.fact_values.specs.declared.value.Value.{Value}
use Rattle.dict_source.specs.Facts.{Fact}
use Rattle.dict_source.specs.Dictionary.{Dictionary}
use Rattle.dict_rules.specs.declared.fault.TypeFault.{TypeFault}
use Rattle.dict_rules.specs.declared.fault.TypeFault.TheVariants as faults
use Rattle.dict_types.specs.declared.limit.Limit.{Limit}
use Rattle.dict_types.specs.BadLimit.{fact_limits}
use Rattle.node_types.specs.Constants.{fact_values}
use Rattle.node_types.specs.FactTyping.{fact_typed}
use Rattle.node_types.specs.Inferring.{◌>>=◌}
use Rattle.dict_rules.specs.Rules.{first_fault, rule_order}
use Rattle.dict_types.specs.TypedParts.{TypedFact, TypedDictionary}

-- ---- facts by number

-- the element with this number, from 1
abbrev pub numbered : {X : Type 0} → List X → ℕ → Option X
numbered xs zero = None
numbered xs (suc i) = slice_get xs i

-- the number is that of an element
abbrev pub IsThere : {X : Type 0} → List X → ℕ → Type 0
IsThere xs n = (1 ≤ n) × (n ≤ length xs)

-- the value of a node of a fact, where it is a constant
abbrev pub constant_at : List TypedFact → ℕ → ℕ → Option Value
constant_at facts fact node = option_and_then (λ f. option_and_then (λ v. v) (numbered f.constants node)) (numbered facts fact)

-- ---- what is judged of each fact

abbrev pub at_fact : {X : Type 0} → ℕ → Result X ℕ → Result X TypeFault
at_fact n (Ok x) = Ok x
at_fact n (Err node) = Err (faults.IllTyped n node)

-- the fact's type and constants, or its first node at fault
abbrev pub typed_fact : Dictionary → ℕ → Fact → Result TypedFact TypeFault
typed_fact d n f = at_fact n (fact_typed d n f) >>= λ t. Ok (record { stated = t; constants = fact_values d.enums f })

-- of each fact, where they are counted from n; the first fault stays
abbrev pub typed_facts : Dictionary → ℕ → List Fact → Result (List TypedFact) TypeFault
typed_facts d n [] = Ok []
typed_facts d n (f ∷ fs) = typed_fact d n f >>= λ t. typed_facts d (suc n) fs >>= λ ts. Ok (t ∷ ts)

abbrev pub or_bad_limit : ℕ → Option (List Limit) → Result (List Limit) TypeFault
or_bad_limit n None = Err (faults.BadLimit n)
or_bad_limit n (Some ls) = Ok ls

abbrev pub limits_of : List (List ℕ) → Dictionary → ℕ → List Fact → Result (List (List Limit)) TypeFault
limits_of names d n [] = Ok []
limits_of names d n (f ∷ fs) = or_bad_limit n (fact_limits names d.enums f) >>= λ l. limits_of names d (suc n) fs >>= λ ls. Ok (l ∷ ls)

-- ---- the dictionary

abbrev pub or_fault : Option TypeFault → Result ⊤ TypeFault
or_fault None = Ok tt
or_fault (Some fault) = Err fault

-- Paths and checks rule by rule, then the types of all facts, then their limits. The names are those of the checks.
abbrev pub typed_dictionary : Dictionary → List (List ℕ) → Result TypedDictionary TypeFault
typed_dictionary d names =
    or_fault (first_fault d names rule_order) >>= λ _. typed_facts d 1 d.facts >>= λ fs. limits_of names d 1 d.facts >>= λ ls. Ok (record { facts = fs; limits = ls })

-- the fault is right, save want of memory, which says nothing
abbrev pub Refuses : (TypeFault → Type 0) → TypeFault → Type 0
Refuses is_fault faults.NoMemory = Unit {0}
Refuses is_fault fault = is_fault fault

-- the answer is what is found, and so is its fault; want of memory says nothing
abbrev pub Finds : {X Y : Type 0} → (X → Y) → Result Y TypeFault → Result X TypeFault → Type 0
Finds view found (Ok x) = found ≡ Ok (view x)
Finds view found (Err faults.NoMemory) = Unit {0}
Finds view found (Err (faults.BadPath n)) = found ≡ Err (faults.BadPath n)
Finds view found (Err (faults.DuplicatePath n)) = found ≡ Err (faults.DuplicatePath n)
Finds view found (Err (faults.NoCollection n)) = found ≡ Err (faults.NoCollection n)
Finds view found (Err (faults.UnknownPath n)) = found ≡ Err (faults.UnknownPath n)
Finds view found (Err (faults.WrongPlace n)) = found ≡ Err (faults.WrongPlace n)
Finds view found (Err (faults.UnknownCheck n)) = found ≡ Err (faults.UnknownCheck n)
Finds view found (Err (faults.IllTyped n node)) = found ≡ Err (faults.IllTyped n node)
Finds view found (Err (faults.BadLimit n)) = found ≡ Err (faults.BadLimit n)
