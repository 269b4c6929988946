-- What is right of a dictionary is what is found, and the first fault is the one that is named.
use Rattle.std.proofs.Common.{◌≡◌, ◌≢◌, ℕ, zero, suc, ◌+◌, Bool, true, false, List, [], ◌∷◌, Option, Some, None, Result, Ok, Err, inl, inr, refl, sym, ap, ◌∙◌}
use Rattle.fact_values.specs.declared.fact_type.FactType.{FactType}
use Rattle.fact_values.specs.declared.value.Value.{Value}
use Rattle.dict_source.specs.OperandTypes.{same_type}
use Rattle.dict_source.specs.Typing.{HasType}
use Rattle.dict_source.specs.Facts.{Fact}
use Rattle.dict_source.specs.Dictionary.{Dictionary}
use Rattle.dict_rules.specs.declared.fault.TypeFault.{TypeFault}
use Rattle.dict_types.specs.declared.limit.Limit.{Limit}
use Rattle.dict_rules.specs.declared.rules.Rule.{Rule}
use Rattle.dict_types.specs.DictFaults.{AreKept, AreLimits, AreTypedFacts, HaveWanted, IsFaultOf, IsFirstBadLimit, IsFirstBroken, IsFirstFault, IsFirstIllTyped, IsFirstNode, IsFirstOf, IsTypedDictionary, IsTypedFact, Part, fact_parts}
use Rattle.node_types.specs.FactTyping.{expr_as, fact_typed, nodes_as, types_in}
use Rattle.node_types.specs.Inferring.{type_of}
use Rattle.node_types.specs.NodeFaults.{FirstIn, IsAtFault, SourceTree, SourceTypes, placed}
use Rattle.dict_rules.specs.Rules.{breaks, first_fault as fault_by_rules, rule_order}
use Rattle.dict_types.specs.Typed.{limits_of, typed_dictionary, typed_fact, typed_facts}
use Rattle.dict_types.specs.TypedParts.{TypedFact, TypedDictionary}
use Rattle.dict_types.proofs.DictLaws.{fine, failed, kept, nodes_are, parts_as}
use Rattle.node_types.proofs.FaultLaws.{first_fault, none_or_first, typed_none}
use Rattle.dict_rules.proofs.FirstLaws.{first_is_least, none_is_found}
use Rattle.node_types.proofs.InferenceLaws.{complete, sound}
use Rattle.dict_source.proofs.TypeLaws.{same_is, same_itself}

-- ---- rules

none_is_broken : (d : Dictionary) (names : List (List ℕ)) (order : List Rule) → AreKept d names order → fault_by_rules d names order ≡ None
none_is_broken d names [] h = refl
none_is_broken d names (rule ∷ later) h = rw ((none_is_found (breaks d names rule) d.facts).1 h.0) (none_is_broken d names later h.1)

broken_is_named : (d : Dictionary) (names : List (List ℕ)) (order : List Rule) (fault : TypeFault) → IsFirstBroken d names order fault → fault_by_rules d names order ≡ Some fault
broken_is_named d names [] fault h = absurd h
broken_is_named d names (rule ∷ later) fault h =
    elim h [
      | inl k ↦ rw ((first_is_least (breaks d names rule) d.facts k.0).1 k.1) (ap (λ (e : TypeFault). Some e) (sym k.2))
      | inr k ↦ rw ((none_is_found (breaks d names rule) d.facts).1 k.0) (broken_is_named d names later fault k.1)
    ]

-- ---- nodes

first_is_one : {X : Type 0} (P : X → Type 0) (xs : List X) (i j : ℕ) → FirstIn P xs i → FirstIn P xs j → i ≡ j
first_is_one P [] i j h k = absurd h
first_is_one P (x ∷ xs) zero zero h k = refl
first_is_one P (x ∷ xs) zero (suc j) h k = absurd (k.0 h)
first_is_one P (x ∷ xs) (suc i) zero h k = absurd (h.0 k)
first_is_one P (x ∷ xs) (suc i) (suc j) h k = ap suc (first_is_one P xs i j h.1 k.1)

differ : (t u : FactType) → t ≢ u → same_type t u ≡ false
differ t u other = by (same_type t u) refl
  where
    by : (b : Bool) → same_type t u ≡ b → b ≡ false
    by true e = absurd (other (same_is t u e))
    by false e = refl

abbrev untyped : ℕ → Result FactType ℕ
untyped n = Err n

module _ (ty : SourceTypes) where
  type_faults : (n b : ℕ) (t : SourceTree) (i : ℕ) → FirstIn (IsAtFault ty) (placed ty b t) i → type_of ty n b t ≡ untyped (n + i)
  type_faults n b t i first = by (type_of ty n b t) refl
    where
      by : (r : Result FactType ℕ) → type_of ty n b t ≡ r → r ≡ untyped (n + i)
      by (Ok u) e = absurd (none_or_first (IsAtFault ty) (placed ty b t) i (typed_none ty b t u (sound ty n b t u e)) first)
      by (Err m) e =
          let f = first_fault ty n b t m e in
          ap untyped (f.1 ∙ ap (λ (k : ℕ). n + k) (first_is_one (IsAtFault ty) (placed ty b t) f.0 i f.2 first))

  expr_at : (p : Part) → HasType ty 0 p.tree p.want → expr_as ty p.start p.want p.tree ≡ fine
  expr_at p h = rw (complete ty p.start 0 p.tree p.want h, same_itself p.want) refl

  expr_faults : (p : Part) (m : ℕ) → IsFaultOf ty p m → expr_as ty p.start p.want p.tree ≡ failed m
  expr_faults p m h =
      elim h [
        | inl k ↦ rw (complete ty p.start 0 p.tree k.1 k.2, differ k.1 p.want k.3) (ap failed (sym k.0))
        | inr k ↦ rw (type_faults p.start 0 p.tree k.0 k.2) (ap failed (sym k.1))
      ]

  parts_at : (ps : List Part) → HaveWanted ty ps → parts_as ty ps ≡ fine
  parts_at [] h = refl
  parts_at (p ∷ ps) h = rw (expr_at p h.0) (parts_at ps h.1)

  parts_faults : (ps : List Part) (m : ℕ) → IsFirstOf ty ps m → parts_as ty ps ≡ failed m
  parts_faults [] m h = absurd h
  parts_faults (p ∷ ps) m h =
      elim h [
        | inl k ↦ rw (expr_faults p m k) refl
        | inr k ↦ rw (expr_at p k.0) (parts_faults ps m k.1)
      ]

-- ---- facts

fact_is_typed : (d : Dictionary) (n : ℕ) (f : Fact) (t : FactType) → IsTypedFact d n f t → fact_typed d n f ≡ Ok t
fact_is_typed d n f t h =
    let all : nodes_as (types_in d n) t f ≡ fine = nodes_are (types_in d n) t f ∙ parts_at (types_in d n) (fact_parts t f) h.1 in
    rw (h.0, all) refl

fact_faults : (d : Dictionary) (n : ℕ) (f : Fact) (m : ℕ) → IsFirstNode d n f m → fact_typed d n f ≡ untyped m
fact_faults d n f m h =
    elim h [
      | inl k ↦ rw (k.1) (ap untyped (sym k.0))
      | inr k ↦ let all : nodes_as (types_in d n) k.0 f ≡ failed m = nodes_are (types_in d n) k.0 f ∙ parts_faults (types_in d n) (fact_parts k.0 f) m k.2 in
          rw (k.1, all) refl
    ]

kept_is_typed : (d : Dictionary) (n : ℕ) (f : Fact) (t : FactType) → IsTypedFact d n f t → typed_fact d n f ≡ Ok (kept d f t)
kept_is_typed d n f t h = rw (fact_is_typed d n f t h) refl

abbrev all_typed : List TypedFact → Result (List TypedFact) TypeFault
all_typed ts = Ok ts

abbrev none_typed : TypeFault → Result (List TypedFact) TypeFault
none_typed fault = Err fault

facts_are_typed : (d : Dictionary) (n : ℕ) (fs : List Fact) (ts : List TypedFact) → AreTypedFacts d n fs ts → typed_facts d n fs ≡ Ok ts
facts_are_typed d n [] [] h = refl
facts_are_typed d n [] (t ∷ ts) h = absurd h
facts_are_typed d n (f ∷ fs) [] h = absurd h
facts_are_typed d n (f ∷ fs) (t ∷ ts) h =
    rw (kept_is_typed d n f t.stated h.0, facts_are_typed d (suc n) fs ts h.2)
    (ap (λ (c : List (Option Value)). all_typed (record { stated = t.stated; constants = c } ∷ ts)) (sym h.1))

facts_fault : (d : Dictionary) (n : ℕ) (fs : List Fact) (fault : TypeFault) → IsFirstIllTyped d n fs fault → typed_facts d n fs ≡ Err fault
facts_fault d n [] fault h = absurd h
facts_fault d n (f ∷ fs) fault h =
    elim h [
      | inl k ↦ rw (fact_faults d n f k.0 k.2) (ap none_typed (sym k.1))
      | inr k ↦ rw (kept_is_typed d n f k.0 k.1, facts_fault d (suc n) fs fault k.2) refl
    ]

abbrev no_limits : TypeFault → Result (List (List Limit)) TypeFault
no_limits fault = Err fault

limits_are_found : (names : List (List ℕ)) (d : Dictionary) (n : ℕ) (fs : List Fact) (ls : List (List Limit)) → AreLimits names d fs ls → limits_of names d n fs ≡ Ok ls
limits_are_found names d n [] [] h = refl
limits_are_found names d n [] (l ∷ ls) h = absurd h
limits_are_found names d n (f ∷ fs) [] h = absurd h
limits_are_found names d n (f ∷ fs) (l ∷ ls) h = rw (h.0, limits_are_found names d (suc n) fs ls h.1) refl

limits_fault : (names : List (List ℕ)) (d : Dictionary) (n : ℕ) (fs : List Fact) (fault : TypeFault) → IsFirstBadLimit names d n fs fault → limits_of names d n fs ≡ Err fault
limits_fault names d n [] fault h = absurd h
limits_fault names d n (f ∷ fs) fault h =
    elim h [
      | inl k ↦ rw (k.1) (ap no_limits (sym k.0))
      | inr k ↦ rw (k.1, limits_fault names d (suc n) fs fault k.2) refl
    ]

-- ---- the dictionary

pub well_typed_is_found : (d : Dictionary) (names : List (List ℕ)) (t : TypedDictionary) → IsTypedDictionary d names t → typed_dictionary d names ≡ Ok t
well_typed_is_found d names t h = rw (none_is_broken d names rule_order h.0, facts_are_typed d 1 d.facts t.facts h.1, limits_are_found names d 1 d.facts t.limits h.2) refl

pub first_is_named : (d : Dictionary) (names : List (List ℕ)) (fault : TypeFault) → IsFirstFault d names fault → typed_dictionary d names ≡ Err fault
first_is_named d names fault h =
    elim h [
      | inl k ↦ rw (broken_is_named d names rule_order fault k) refl
      | inr other ↦ elim other [
        | inl k ↦ rw (none_is_broken d names rule_order k.0, facts_fault d 1 d.facts fault k.1) refl
        | inr k ↦ rw (none_is_broken d names rule_order k.0, facts_are_typed d 1 d.facts k.1 k.2, limits_fault names d 1 d.facts fault k.3) refl
      ]
    ]
