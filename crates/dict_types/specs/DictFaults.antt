-- The first fault of a dictionary's paths, types and limits: by its rule, then by the fact, then by the node.
use Rattle.std.specs.Prelude.{◌≡◌, ◌≢◌, ◌⊎◌, ℕ, suc, ◌+◌, List, [], ◌∷◌, ◌++◌, Option, Some, None, Ok, Err}
use Rattle.fact_values.specs.declared.fact_type.FactType.{FactType}
use Rattle.fact_values.specs.declared.fact_type.FactType.TheVariants.{Boolean}
use Rattle.dict_source.specs.Tree.{Source, SourceCase, size}
use Rattle.dict_source.specs.Typing.{HasType}
use Rattle.dict_source.specs.Facts.{Fact, option_size, conditional_size}
use Rattle.dict_source.specs.Dictionary.{Dictionary}
use Rattle.dict_rules.specs.declared.fault.TypeFault.{TypeFault}
use Rattle.dict_rules.specs.declared.fault.TypeFault.TheVariants as faults
use Rattle.dict_types.specs.declared.limit.Limit.{Limit}
use Rattle.dict_rules.specs.declared.rules.Rule.{Rule}
use Rattle.dict_types.specs.BadLimit.{fact_limits}
use Rattle.node_types.specs.Constants.{fact_values}
use Rattle.node_types.specs.FactTyping.{types_in}
use Rattle.dict_rules.specs.FirstFact.{Passes, IsFirstPassing}
use Rattle.node_types.specs.NodeFaults.{SourceTypes, IsAtFault, FirstIn, placed}
use Rattle.dict_rules.specs.Rules.{breaks, fault_of, rule_order}
use Rattle.node_types.specs.StatedTypes.{stated_type}
use Rattle.dict_types.specs.Typed.{typed_dictionary}
use Rattle.dict_types.specs.TypedParts.{TypedFact, TypedDictionary}

-- ---- rules of paths and checks

-- no fact breaks the rule
abbrev pub IsKept : Dictionary → List (List ℕ) → Rule → Type 0
IsKept d names rule = (n : ℕ) → ¬ Passes (breaks d names rule) d.facts n

abbrev pub AreKept : Dictionary → List (List ℕ) → List Rule → Type 0
AreKept d names [] = Unit {0}
AreKept d names (rule ∷ later) = IsKept d names rule × AreKept d names later

-- the fault is that of the first fact that breaks the first rule that is broken
abbrev pub IsFirstBroken : Dictionary → List (List ℕ) → List Rule → TypeFault → Type 0
IsFirstBroken d names [] fault = ⊥
IsFirstBroken d names (rule ∷ later) fault = ((n : ℕ) × IsFirstPassing (breaks d names rule) d.facts n × (fault ≡ fault_of rule n)) ⊎ (IsKept d names rule × IsFirstBroken d names later fault)

-- ---- nodes of a fact

-- an expression of a fact: the number of its first node, and the type that it is to have
pub record Part : Type 0 where
  pub start : ℕ
  pub want : FactType
  pub tree : Source

abbrev pub part : ℕ → FactType → Source → Part
part n want t = record { start = n; want = want; tree = t }

abbrev pub option_parts : ℕ → FactType → Option Source → List Part
option_parts n want None = []
option_parts n want (Some t) = part n want t ∷ []

-- the condition is to be Boolean
abbrev pub conditional_parts : ℕ → FactType → Option SourceCase → List Part
conditional_parts n want None = []
conditional_parts n want (Some c) = part n Boolean c.0 ∷ part (n + size c.0) want c.1 ∷ []

-- main, then the conditional, then the placeholder
abbrev pub fact_parts : FactType → Fact → List Part
fact_parts want f = option_parts 1 want f.main ++ (conditional_parts (1 + option_size f.main) want f.conditional ++ option_parts (1 + option_size f.main + conditional_size f.conditional) want f.placeholder)

-- each has its type
abbrev pub HaveWanted : SourceTypes → List Part → Type 0
HaveWanted ty [] = Unit {0}
HaveWanted ty (p ∷ ps) = HasType ty 0 p.tree p.want × HaveWanted ty ps

-- the node is the root, which has another type, or the first whose sub-expressions have types and which has none
abbrev pub IsFaultOf : SourceTypes → Part → ℕ → Type 0
IsFaultOf ty p m = ((m ≡ p.start) × (u : FactType) × HasType ty 0 p.tree u × (u ≢ p.want)) ⊎ ((i : ℕ) × (m ≡ p.start + i) × FirstIn (IsAtFault ty) (placed ty 0 p.tree) i)

-- the first at fault among all
abbrev pub IsFirstOf : SourceTypes → List Part → ℕ → Type 0
IsFirstOf ty [] m = ⊥
IsFirstOf ty (p ∷ ps) m = IsFaultOf ty p m ⊎ (HasType ty 0 p.tree p.want × IsFirstOf ty ps m)

-- the fact states the type, and each of its expressions has the type that it is to have
abbrev pub IsTypedFact : Dictionary → ℕ → Fact → FactType → Type 0
IsTypedFact d n f t = (stated_type d f ≡ Some t) × HaveWanted (types_in d n) (fact_parts t f)

-- 0 where the stated enum isn't declared, else the first node at fault
abbrev pub IsFirstNode : Dictionary → ℕ → Fact → ℕ → Type 0
IsFirstNode d n f m = ((m ≡ 0) × (stated_type d f ≡ None)) ⊎ ((t : FactType) × (stated_type d f ≡ Some t) × IsFirstOf (types_in d n) (fact_parts t f) m)

-- ---- types and limits of facts, which are counted from n

abbrev pub AreTypedFacts : Dictionary → ℕ → List Fact → List TypedFact → Type 0
AreTypedFacts d n [] [] = Unit {0}
AreTypedFacts d n (f ∷ fs) (t ∷ ts) = IsTypedFact d n f t.stated × (t.constants ≡ fact_values d.enums f) × AreTypedFacts d (suc n) fs ts
AreTypedFacts d n _ _ = ⊥

abbrev pub IsFirstIllTyped : Dictionary → ℕ → List Fact → TypeFault → Type 0
IsFirstIllTyped d n [] fault = ⊥
IsFirstIllTyped d n (f ∷ fs) fault = ((m : ℕ) × (fault ≡ faults.IllTyped n m) × IsFirstNode d n f m) ⊎ ((t : FactType) × IsTypedFact d n f t × IsFirstIllTyped d (suc n) fs fault)

abbrev pub AreLimits : List (List ℕ) → Dictionary → List Fact → List (List Limit) → Type 0
AreLimits names d [] [] = Unit {0}
AreLimits names d (f ∷ fs) (l ∷ ls) = (fact_limits names d.enums f ≡ Some l) × AreLimits names d fs ls
AreLimits names d _ _ = ⊥

abbrev pub IsFirstBadLimit : List (List ℕ) → Dictionary → ℕ → List Fact → TypeFault → Type 0
IsFirstBadLimit names d n [] fault = ⊥
IsFirstBadLimit names d n (f ∷ fs) fault = ((fault ≡ faults.BadLimit n) × (fact_limits names d.enums f ≡ None)) ⊎ ((ls : List Limit) × (fact_limits names d.enums f ≡ Some ls) × IsFirstBadLimit names d (suc n) fs fault)

-- ---- the dictionary

-- it keeps all rules, and these are its types, constants and limits
abbrev pub IsTypedDictionary : Dictionary → List (List ℕ) → TypedDictionary → Type 0
IsTypedDictionary d names t = AreKept d names rule_order × AreTypedFacts d 1 d.facts t.facts × AreLimits names d d.facts t.limits

-- rules of paths and checks come first, then types, then limits
abbrev pub IsFirstFault : Dictionary → List (List ℕ) → TypeFault → Type 0
IsFirstFault d names fault =
    IsFirstBroken d names rule_order fault
    ⊎ (AreKept d names rule_order × IsFirstIllTyped d 1 d.facts fault)
    ⊎ (AreKept d names rule_order × (ts : List TypedFact) × AreTypedFacts d 1 d.facts ts × IsFirstBadLimit names d 1 d.facts fault)

-- ---- laws

abbrev pub TypedIsWellTyped : Type 0
TypedIsWellTyped = (d : Dictionary) (names : List (List ℕ)) (t : TypedDictionary) → typed_dictionary d names ≡ Ok t → IsTypedDictionary d names t

abbrev pub FaultIsFirst : Type 0
FaultIsFirst = (d : Dictionary) (names : List (List ℕ)) (fault : TypeFault) → typed_dictionary d names ≡ Err fault → IsFirstFault d names fault

-- the other way round
abbrev pub WellTypedIsFound : Type 0
WellTypedIsFound = (d : Dictionary) (names : List (List ℕ)) (t : TypedDictionary) → IsTypedDictionary d names t → typed_dictionary d names ≡ Ok t

abbrev pub FirstIsNamed : Type 0
FirstIsNamed = (d : Dictionary) (names : List (List ℕ)) (fault : TypeFault) → IsFirstFault d names fault → typed_dictionary d names ≡ Err fault
