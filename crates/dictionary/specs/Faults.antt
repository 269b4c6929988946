-- The first fault of a dictionary: by its kind, then by the fact, then by the node.
use Rattle.std.specs.Prelude.{◌≡◌, ℕ, List, Ok, Err}
use Rattle.dict_source.specs.Dictionary.{Dictionary as Tree}
use Rattle.dict_tree.specs.DictParsing.{BytesGive}
use Rattle.dict_tree.specs.declared.fault.TreeFault.{TreeFault}
use Rattle.dict_tree.specs.declared.fault.TreeFault.TheVariants as trees
use Rattle.dict_types.specs.TypedParts.{TypedDictionary}
use Rattle.dict_types.specs.DictFaults.{IsFirstFault, IsTypedDictionary}
use Rattle.dict_rules.specs.declared.fault.TypeFault.{TypeFault}
use Rattle.dict_rules.specs.declared.fault.TypeFault.TheVariants as types
use Rattle.dict_order.specs.Graph.{IsFirstCycle}
use Rattle.dict_order.specs.MentionGraph.{mention_graph}
use Rattle.dict_meaning.specs.Accepted.{Accepted, IsAccepted}
use Rattle.dictionary.specs.declared.fault.DictFault.{DictFault}
use Rattle.dictionary.specs.declared.fault.DictFault.TheVariants as faults

-- the dictionary has types, and this is the first fact that reaches itself
abbrev pub IsTypedCycle : Tree → List (List ℕ) → ℕ → Type 0
IsTypedCycle d names n = (t : TypedDictionary) × IsTypedDictionary d names t × IsFirstCycle (mention_graph d) n

-- the first fault of a dictionary that was read: of paths and checks, of types, of limits, or a cycle
abbrev pub IsFaultOf : Tree → List (List ℕ) → DictFault → Type 0
IsFaultOf d names (faults.BadPath n) = IsFirstFault d names (types.BadPath n)
IsFaultOf d names (faults.DuplicatePath n) = IsFirstFault d names (types.DuplicatePath n)
IsFaultOf d names (faults.NoCollection n) = IsFirstFault d names (types.NoCollection n)
IsFaultOf d names (faults.UnknownPath n) = IsFirstFault d names (types.UnknownPath n)
IsFaultOf d names (faults.WrongPlace n) = IsFirstFault d names (types.WrongPlace n)
IsFaultOf d names (faults.UnknownCheck n) = IsFirstFault d names (types.UnknownCheck n)
IsFaultOf d names (faults.IllTyped n node) = IsFirstFault d names (types.IllTyped n node)
IsFaultOf d names (faults.BadLimit n) = IsFirstFault d names (types.BadLimit n)
IsFaultOf d names (faults.Cycle n) = IsTypedCycle d names n
IsFaultOf d names fault = ⊥

-- none of these is a fault of the dictionary
abbrev pub HasNoFault : Tree → List (List ℕ) → Type 0
HasNoFault d names = (fault : DictFault) → IsFaultOf d names fault → ⊥

-- the bytes spell a dictionary, and this is its first fault
abbrev pub IsFaultOfRead : List ℕ → List (List ℕ) → DictFault → Type 0
IsFaultOfRead bytes names fault = (d : Tree) × BytesGive bytes (Ok d) × IsFaultOf d names fault

-- the first fault of the bytes, with checks of these names
abbrev pub IsFault : List ℕ → List (List ℕ) → DictFault → Type 0
IsFault bytes names faults.TooLong = BytesGive bytes (Err trees.TooLong)
IsFault bytes names faults.NotJson = BytesGive bytes (Err trees.NotJson)
IsFault bytes names (faults.Shape n) = BytesGive bytes (Err (trees.Shape n))
IsFault bytes names (faults.TooMany n) = BytesGive bytes (Err (trees.TooMany n))
IsFault bytes names (faults.TooDeep n) = BytesGive bytes (Err (trees.TooDeep n))
IsFault bytes names faults.NoMemory = ⊥
IsFault bytes names fault = IsFaultOfRead bytes names fault

-- the bytes spell this dictionary, and it has no fault
abbrev pub AreAccepted : List ℕ → List (List ℕ) → Accepted → Type 0
AreAccepted bytes names d = BytesGive bytes (Ok d.tree) × IsAccepted names d

-- ---- how acceptance answers; want of memory says nothing

abbrev pub Refuses : (DictFault → Type 0) → DictFault → Type 0
Refuses is_fault faults.NoMemory = Unit {0}
Refuses is_fault fault = is_fault fault

-- ---- the faults of the parts, by the same names

abbrev pub of_trees : TreeFault → DictFault
of_trees trees.TooLong = faults.TooLong
of_trees trees.NotJson = faults.NotJson
of_trees (trees.Shape n) = faults.Shape n
of_trees (trees.TooMany n) = faults.TooMany n
of_trees (trees.TooDeep n) = faults.TooDeep n
of_trees trees.NoMemory = faults.NoMemory

abbrev pub of_types : TypeFault → DictFault
of_types (types.BadPath n) = faults.BadPath n
of_types (types.DuplicatePath n) = faults.DuplicatePath n
of_types (types.NoCollection n) = faults.NoCollection n
of_types (types.UnknownPath n) = faults.UnknownPath n
of_types (types.WrongPlace n) = faults.WrongPlace n
of_types (types.UnknownCheck n) = faults.UnknownCheck n
of_types (types.IllTyped n node) = faults.IllTyped n node
of_types (types.BadLimit n) = faults.BadLimit n
of_types types.NoMemory = faults.NoMemory

-- the fault is a cycle, of the first fact that reaches itself
abbrev pub IsCycleOf : Tree → DictFault → Type 0
IsCycleOf d (faults.Cycle n) = IsFirstCycle (mention_graph d) n
IsCycleOf d fault = ⊥

-- ---- laws

-- what is accepted has no fault
abbrev pub AcceptedHasNoFault : Type 0
AcceptedHasNoFault = (bytes : List ℕ) (names : List (List ℕ)) (d : Accepted) (fault : DictFault) → AreAccepted bytes names d → IsFault bytes names fault → ⊥

-- there is one first fault at most
abbrev pub OneFaultAtMost : Type 0
OneFaultAtMost = (bytes : List ℕ) (names : List (List ℕ)) (fault other : DictFault) → IsFault bytes names fault → IsFault bytes names other → fault ≡ other

-- the bytes spell one dictionary at most
abbrev pub OneDictionaryAtMost : Type 0
OneDictionaryAtMost = (bytes : List ℕ) (names : List (List ℕ)) (d e : Accepted) → AreAccepted bytes names d → AreAccepted bytes names e → d ≡ e
