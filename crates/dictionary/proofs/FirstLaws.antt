-- Bytes have one first fault at most, or they spell one dictionary, which has none.
use Rattle.std.proofs.Common.{◌≡◌, ℕ, ◌<◌, ◌≤◌, List, length, Some, Result, Ok, Err, ◌⊎◌, inl, inr, refl, sym, ap, subst, ◌∙◌, arith}
use Rattle.serde_json.specs.Data.{Data}
use Rattle.dict_source.specs.Dictionary.{Dictionary as Tree}
use Rattle.dict_tree.specs.DictParsing.{IsJson, IsOfValue, dictionary_of, max_bytes}
use Rattle.dict_tree.specs.declared.fault.TreeFault.{TreeFault}
use Rattle.dict_tree.specs.declared.fault.TreeFault.TheVariants as trees
use Rattle.dict_tree.proofs.DictJsonLaws.{given_read}
use Rattle.dict_rules.specs.declared.fault.TypeFault.{TypeFault}
use Rattle.dict_rules.specs.declared.fault.TypeFault.TheVariants as types
use Rattle.dict_types.specs.Typed.{typed_dictionary}
use Rattle.dict_types.specs.TypedParts.{TypedDictionary}
use Rattle.dict_types.proofs.FoundLaws.{first_is_named, well_typed_is_found}
use Rattle.dict_order.specs.Graph.{Graph, HasNoCycle, IsFirstCycle}
use Rattle.dict_order.specs.MentionGraph.{mention_graph}
use Rattle.dict_order.proofs.ListLaws.{at_most_or_above}
use Rattle.dict_order.proofs.RankLaws.{no_cycle}
use Rattle.dict_meaning.specs.Accepted.{Accepted, IsAccepted}
use Rattle.dictionary.specs.Faults.{AreAccepted, HasNoFault, IsFault, IsFaultOf, IsFaultOfRead, Refuses, of_trees, of_types}
use Rattle.dictionary.specs.declared.fault.DictFault.{DictFault}
use Rattle.dictionary.specs.declared.fault.DictFault.TheVariants as faults
use Rattle.dict_meaning.proofs.AcceptedLaws.{one_accepted}

-- ---- bytes give one thing

one_value : (bytes : List ℕ) (d e : Data) → IsJson bytes d → IsJson bytes e → d ≡ e
one_value bytes d e h k = let same : Some d ≡ Some e = sym h.1 ∙ k.1 in cc

one_reading : (bytes : List ℕ) (r s : Result Tree TreeFault) → IsOfValue bytes r → IsOfValue bytes s → r ≡ s
one_reading bytes r s h k = sym (given_read h.1 r h.3) ∙ ap dictionary_of (one_value bytes h.1 k.1 h.2 k.2) ∙ given_read k.1 s k.3

abbrev tree : Tree → Result Tree TreeFault
tree d = Ok d

one_tree : (bytes : List ℕ) (d e : Tree) → IsOfValue bytes (Ok d) → IsOfValue bytes (Ok e) → d ≡ e
one_tree bytes d e h k = let same : tree d ≡ tree e = one_reading bytes (Ok d) (Ok e) h k in cc

-- ---- a dictionary has one first fault

one_cycle : (g : Graph) (n m : ℕ) → IsFirstCycle g n → IsFirstCycle g m → n ≡ m
one_cycle g n m h k = elim (at_most_or_above n m) [
  | inl l ↦ elim (at_most_or_above m n) [
    | inl r ↦ omega (arith, l, r)
    | inr r ↦ absurd (k.first n r h.cycle)
  ]
  | inr l ↦ absurd (h.first m l k.cycle)
]

-- a fault of types, or a cycle
abbrev Judged : Tree → List (List ℕ) → DictFault → Type 0
Judged d names fault = ((e : TypeFault) × (typed_dictionary d names ≡ Err e) × (fault ≡ of_types e)) ⊎ ((t : TypedDictionary) × (n : ℕ) × (typed_dictionary d names ≡ Ok t) × IsFirstCycle (mention_graph d) n × (fault ≡ faults.Cycle n))

judged : (d : Tree) (names : List (List ℕ)) (fault : DictFault) → IsFaultOf d names fault → Judged d names fault
judged d names faults.TooLong h = absurd h
judged d names faults.NotJson h = absurd h
judged d names (faults.Shape n) h = absurd h
judged d names (faults.TooMany n) h = absurd h
judged d names (faults.TooDeep n) h = absurd h
judged d names (faults.BadPath n) h = inl (types.BadPath n, first_is_named d names (types.BadPath n) h, refl)
judged d names (faults.DuplicatePath n) h = inl (types.DuplicatePath n, first_is_named d names (types.DuplicatePath n) h, refl)
judged d names (faults.NoCollection n) h = inl (types.NoCollection n, first_is_named d names (types.NoCollection n) h, refl)
judged d names (faults.UnknownPath n) h = inl (types.UnknownPath n, first_is_named d names (types.UnknownPath n) h, refl)
judged d names (faults.WrongPlace n) h = inl (types.WrongPlace n, first_is_named d names (types.WrongPlace n) h, refl)
judged d names (faults.UnknownCheck n) h = inl (types.UnknownCheck n, first_is_named d names (types.UnknownCheck n) h, refl)
judged d names (faults.IllTyped n node) h = inl (types.IllTyped n node, first_is_named d names (types.IllTyped n node) h, refl)
judged d names (faults.BadLimit n) h = inl (types.BadLimit n, first_is_named d names (types.BadLimit n) h, refl)
judged d names (faults.Cycle n) h = inr (h.0, n, well_typed_is_found d names h.0 h.1, h.2, refl)
judged d names faults.NoMemory h = absurd h

abbrev typed : TypedDictionary → Result TypedDictionary TypeFault
typed t = Ok t

abbrev untyped : TypeFault → Result TypedDictionary TypeFault
untyped e = Err e

not_both : (r : Result TypedDictionary TypeFault) (t : TypedDictionary) (e : TypeFault) → r ≡ Ok t → r ≡ Err e → ⊥
not_both r t e h k = let same : typed t ≡ untyped e = sym h ∙ k in cc

one_type_fault : (r : Result TypedDictionary TypeFault) (e f : TypeFault) → r ≡ Err e → r ≡ Err f → e ≡ f
one_type_fault r e f h k = let same : untyped e ≡ untyped f = sym h ∙ k in cc

one_judged : (d : Tree) (names : List (List ℕ)) (f g : DictFault) → Judged d names f → Judged d names g → f ≡ g
one_judged d names f g h k = elim h [
  | inl a ↦ elim k [
    | inl b ↦ a.2 ∙ ap of_types (one_type_fault (typed_dictionary d names) a.0 b.0 a.1 b.1) ∙ sym b.2
    | inr b ↦ absurd (not_both (typed_dictionary d names) b.0 a.0 b.2 a.1)
  ]
  | inr a ↦ elim k [
    | inl b ↦ absurd (not_both (typed_dictionary d names) a.0 b.0 a.2 b.1)
    | inr b ↦ a.4 ∙ ap faults.Cycle (one_cycle (mention_graph d) a.1 b.1 a.3 b.3) ∙ sym b.4
  ]
]

-- where types are found and no fact reaches itself, there is none
unjudged : (d : Tree) (names : List (List ℕ)) (t : TypedDictionary) → typed_dictionary d names ≡ Ok t → HasNoCycle (mention_graph d) → (fault : DictFault) → Judged d names fault → ⊥
unjudged d names t found none fault h = elim h [
  | inl a ↦ not_both (typed_dictionary d names) t a.0 found a.1
  | inr a ↦ none a.1 a.3.cycle
]

pub has_no_fault : (d : Tree) (names : List (List ℕ)) (t : TypedDictionary) → typed_dictionary d names ≡ Ok t → HasNoCycle (mention_graph d) → HasNoFault d names
has_no_fault d names t found none fault h = unjudged d names t found none fault (judged d names fault h)

none_judged : (names : List (List ℕ)) (d : Accepted) (fault : DictFault) → IsAccepted names d → Judged d.tree names fault → ⊥
none_judged names d fault is = unjudged d.tree names d.typed (well_typed_is_found d.tree names d.typed is.typed) (no_cycle (mention_graph d.tree) d.ranks is.ranked) fault

-- then acceptance can only be refused for want of memory
pub only_memory : (d : Tree) (names : List (List ℕ)) → HasNoFault d names → (fault : DictFault) → Refuses (IsFaultOf d names) fault → fault ≡ faults.NoMemory
only_memory d names none faults.NoMemory h = refl
only_memory d names none fault h = absurd (none fault h)

-- ---- bytes have one first fault

-- what the value gives, and the fault of that
abbrev Follows : List (List ℕ) → Result Tree TreeFault → DictFault → Type 0
Follows names (Ok d) fault = Judged d names fault
Follows names (Err e) fault = fault ≡ of_trees e

-- too long, no JSON, or a fault of what the value gives
abbrev FaultCause : List ℕ → List (List ℕ) → DictFault → Type 0
FaultCause bytes names fault =
    ((max_bytes < length bytes) × (fault ≡ faults.TooLong))
    ⊎ (((length bytes ≤ max_bytes) × ((d : Data) → IsJson bytes d → ⊥) × (fault ≡ faults.NotJson))
    ⊎ ((r : Result Tree TreeFault) × IsOfValue bytes r × Follows names r fault))

cause_of : (bytes : List ℕ) (names : List (List ℕ)) (fault : DictFault) → IsFaultOfRead bytes names fault → FaultCause bytes names fault
cause_of bytes names fault h = inr (inr (Ok h.0, h.1, judged h.0 names fault h.2))

cause : (bytes : List ℕ) (names : List (List ℕ)) (fault : DictFault) → IsFault bytes names fault → FaultCause bytes names fault
cause bytes names faults.TooLong h = inl (h, refl)
cause bytes names faults.NotJson h = inr (inl (h.0, h.1, refl))
cause bytes names (faults.Shape n) h = inr (inr (Err (trees.Shape n), h, refl))
cause bytes names (faults.TooMany n) h = inr (inr (Err (trees.TooMany n), h, refl))
cause bytes names (faults.TooDeep n) h = inr (inr (Err (trees.TooDeep n), h, refl))
cause bytes names (faults.BadPath n) h = cause_of bytes names (faults.BadPath n) h
cause bytes names (faults.DuplicatePath n) h = cause_of bytes names (faults.DuplicatePath n) h
cause bytes names (faults.NoCollection n) h = cause_of bytes names (faults.NoCollection n) h
cause bytes names (faults.UnknownPath n) h = cause_of bytes names (faults.UnknownPath n) h
cause bytes names (faults.WrongPlace n) h = cause_of bytes names (faults.WrongPlace n) h
cause bytes names (faults.UnknownCheck n) h = cause_of bytes names (faults.UnknownCheck n) h
cause bytes names (faults.IllTyped n node) h = cause_of bytes names (faults.IllTyped n node) h
cause bytes names (faults.BadLimit n) h = cause_of bytes names (faults.BadLimit n) h
cause bytes names (faults.Cycle n) h = cause_of bytes names (faults.Cycle n) h
cause bytes names faults.NoMemory h = absurd h

one_follows : (names : List (List ℕ)) (r : Result Tree TreeFault) (f g : DictFault) → Follows names r f → Follows names r g → f ≡ g
one_follows names (Ok d) f g h k = one_judged d names f g h k
one_follows names (Err e) f g h k = h ∙ sym k

one_cause : (bytes : List ℕ) (names : List (List ℕ)) (f g : DictFault) → FaultCause bytes names f → FaultCause bytes names g → f ≡ g
one_cause bytes names f g h k = elim h [
  | inl a ↦ elim k [
    | inl b ↦ a.1 ∙ sym b.1
    | inr other ↦ elim other [
      | inl b ↦ absurd (omega (arith, a.0, b.0))
      | inr b ↦ absurd (omega (arith, a.0, b.1.0))
    ]
  ]
  | inr rest ↦ elim rest [
    | inl a ↦ elim k [
      | inl b ↦ absurd (omega (arith, a.0, b.0))
      | inr other ↦ elim other [
        | inl b ↦ a.2 ∙ sym b.2
        | inr b ↦ absurd (a.1 b.1.1 b.1.2)
      ]
    ]
    | inr a ↦ elim k [
      | inl b ↦ absurd (omega (arith, b.0, a.1.0))
      | inr other ↦ elim other [
        | inl b ↦ absurd (b.1 a.1.1 a.1.2)
        | inr b ↦ one_follows names b.0 f g (subst (λ (r : Result Tree TreeFault). Follows names r f) (one_reading bytes a.0 b.0 a.1 b.1) a.2) b.2
      ]
    ]
  ]
]

pub one_fault : (bytes : List ℕ) (names : List (List ℕ)) (fault other : DictFault) → IsFault bytes names fault → IsFault bytes names other → fault ≡ other
one_fault bytes names fault other h k = one_cause bytes names fault other (cause bytes names fault h) (cause bytes names other k)

-- ---- what is accepted

none_follows : (names : List (List ℕ)) (d : Accepted) (r : Result Tree TreeFault) (fault : DictFault) → IsAccepted names d → r ≡ Ok d.tree → Follows names r fault → Judged d.tree names fault
none_follows names d (Ok e) fault is same h = let t : e ≡ d.tree = cc in subst (λ (x : Tree). Judged x names fault) t h
none_follows names d (Err e) fault is same h = absurd cc

pub accepted_has_none : (bytes : List ℕ) (names : List (List ℕ)) (d : Accepted) (fault : DictFault) → AreAccepted bytes names d → IsFault bytes names fault → ⊥
accepted_has_none bytes names d fault is h = elim (cause bytes names fault h) [
  | inl a ↦ absurd (omega (arith, a.0, is.0.0))
  | inr rest ↦ elim rest [
    | inl a ↦ a.1 is.0.1 is.0.2
    | inr a ↦ none_judged names d fault is.1 (none_follows names d a.0 fault is.1 (one_reading bytes a.0 (Ok d.tree) a.1 is.0) a.2)
  ]
]

pub one_dictionary : (bytes : List ℕ) (names : List (List ℕ)) (d e : Accepted) → AreAccepted bytes names d → AreAccepted bytes names e → d ≡ e
one_dictionary bytes names d e h k = one_accepted names d e (one_tree bytes d.tree e.tree h.0 k.0) h.1 k.1
