-- What is found of a dictionary is right, or its fault is the first.
use Rattle.std.proofs.Common.{◌≡◌, ◌≢◌, ℕ, suc, ◌+◌, Bool, true, false, cond, List, [], ◌∷◌, ◌++◌, length, Option, Some, None, option_map, Result, Ok, Err, ◌⊎◌, inl, inr, refl, sym, ap, subst, ◌∙◌}
use Rattle.std.specs.Prelude.{ok_or, ⊤, IfErr, IfOk}
use Rattle.std.specs.Option.{option_or}
use Rattle.std.proofs.lemmas.Bool.{true≢false}
use Rattle.std.proofs.lemmas.List.{length-map}
use Rattle.fact_values.specs.declared.fact_type.FactType.{FactType}
use Rattle.fact_values.specs.declared.fact_type.FactType.TheVariants.{Boolean}
use Rattle.dict_source.specs.Tree.{Source, SourceCase, size}
use Rattle.dict_source.specs.OperandTypes.{same_type}
use Rattle.dict_source.specs.Typing.{HasType}
use Rattle.dict_source.specs.Facts.{Fact, fact_view, option_size, conditional_size}
use Rattle.dict_source.specs.Dictionary.{Dictionary, Written, dictionary_view}
use Rattle.dict_rules.specs.declared.fault.TypeFault.{TypeFault}
use Rattle.dict_rules.specs.declared.fault.TypeFault.TheVariants as faults
use Rattle.dict_types.specs.declared.limit.Limit.{Limit}
use Rattle.dict_rules.specs.declared.rules.Rule.{Rule}
use Rattle.dict_types.specs.BadLimit.{fact_limits}
use Rattle.node_types.specs.Constants.{fact_values}
use Rattle.dict_types.specs.DictFaults.{AreKept, AreLimits, AreTypedFacts, HaveWanted, IsFaultOf, IsFirstBadLimit, IsFirstBroken, IsFirstFault, IsFirstIllTyped, IsFirstNode, IsFirstOf, IsTypedDictionary, IsTypedFact, Part, conditional_parts, fact_parts, option_parts}
use Rattle.node_types.specs.FactTyping.{conditional_as, expr_as, fact_typed, nodes_as, option_as, root_as, types_in}
use Rattle.node_types.specs.Inferring.{◌>>=◌, type_of}
use Rattle.node_types.specs.NodeFaults.{SourceTypes}
use Rattle.dict_rules.specs.Rules.{breaks, fault_of, first_breaking, first_fault as fault_by_rules, rule_order}
use Rattle.node_types.specs.StatedTypes.{stated_type}
use Rattle.dict_types.specs.Typed.{Finds, Refuses, at_fact, limits_of, or_bad_limit, or_fault, typed_dictionary, typed_fact, typed_facts}
use Rattle.dict_types.specs.TypedParts.{TypedFact, TypedDictionary}
use Rattle.node_types.proofs.FaultLaws.{first_fault}
use Rattle.dict_rules.proofs.FirstLaws.{first_is_least, none_is_found}
use Rattle.node_types.proofs.InferenceLaws.{bind_err, bind_ok, sound}
use Rattle.dict_source.proofs.TypeLaws.{same_is, same_itself}

-- ---- results

abbrev good : {A E : Type 0} → A → Result A E
good x = Ok x

goods : {A E : Type 0} (x y : A) → good {E = E} x ≡ Ok y → x ≡ y
goods x y e = cc

abbrev pub fine : Result ⊤ ℕ
fine = Ok tt

abbrev pub failed : ℕ → Result ⊤ ℕ
failed n = Err n

-- ---- rules

none_of : (rule : Rule) (o : Option ℕ) (later : Option TypeFault) → option_or (option_map (fault_of rule) o) later ≡ None → (o ≡ None) × (later ≡ None)
none_of rule None later e = (refl, e)
none_of rule (Some n) later e = absurd cc

some_of : (rule : Rule) (o : Option ℕ) (later : Option TypeFault) (fault : TypeFault) → option_or (option_map (fault_of rule) o) later ≡ Some fault → ((n : ℕ) × (o ≡ Some n) × (fault ≡ fault_of rule n)) ⊎ ((o ≡ None) × (later ≡ Some fault))
some_of rule None later fault e = inr (refl, e)
some_of rule (Some n) later fault e = inl (n, refl, (let k : fault_of rule n ≡ fault = cc in sym k))

are_kept : (d : Dictionary) (names : List (List ℕ)) (order : List Rule) → fault_by_rules d names order ≡ None → AreKept d names order
are_kept d names [] e = tt
are_kept d names (rule ∷ later) e =
    let p = none_of rule (first_breaking d names rule) (fault_by_rules d names later) e in
    ((none_is_found (breaks d names rule) d.facts).0 p.0, are_kept d names later p.1)

is_first_broken : (d : Dictionary) (names : List (List ℕ)) (order : List Rule) (fault : TypeFault) → fault_by_rules d names order ≡ Some fault → IsFirstBroken d names order fault
is_first_broken d names [] fault e = absurd cc
is_first_broken d names (rule ∷ later) fault e =
    elim (some_of rule (first_breaking d names rule) (fault_by_rules d names later) fault e) [
      | inl h ↦ inl (h.0, (first_is_least (breaks d names rule) d.facts h.0).0 h.1, h.2)
      | inr h ↦ inr ((none_is_found (breaks d names rule) d.facts).0 h.0, is_first_broken d names later fault h.1)
    ]

-- ---- the expressions of a fact

module _ (ty : SourceTypes) where
  abbrev pub parts_as : List Part → Result ⊤ ℕ
  parts_as [] = Ok tt
  parts_as (p ∷ ps) = expr_as ty p.start p.want p.tree >>= λ _. parts_as ps

  then_all : (ps qs : List Part) → (parts_as ps >>= λ _. parts_as qs) ≡ parts_as (ps ++ qs)
  then_all [] qs = refl
  then_all (p ∷ ps) qs = by (expr_as ty p.start p.want p.tree) (then_all ps qs)
    where
      by : (r : Result ⊤ ℕ) → (parts_as ps >>= λ _. parts_as qs) ≡ parts_as (ps ++ qs) → ((r >>= λ _. parts_as ps) >>= λ _. parts_as qs) ≡ (r >>= λ _. parts_as (ps ++ qs))
      by (Ok u) rest = rest
      by (Err m) rest = refl

  alone : (r : Result ⊤ ℕ) → r ≡ (r >>= λ _. good tt)
  alone (Ok tt) = refl
  alone (Err m) = refl

  option_is : (n : ℕ) (want : FactType) (o : Option Source) → option_as ty n want o ≡ parts_as (option_parts n want o)
  option_is n want None = refl
  option_is n want (Some t) = alone (expr_as ty n want t)

  conditional_is : (n : ℕ) (want : FactType) (o : Option SourceCase) → conditional_as ty n want o ≡ parts_as (conditional_parts n want o)
  conditional_is n want None = refl
  conditional_is n want (Some c) = ap (λ (r : Result ⊤ ℕ). expr_as ty n Boolean c.0 >>= λ _. r) (alone (expr_as ty (n + size c.0) want c.1))

  pub nodes_are : (want : FactType) (f : Fact) → nodes_as ty want f ≡ parts_as (fact_parts want f)
  nodes_are want f =
      let a = option_parts 1 want f.main in
      let b = conditional_parts (1 + option_size f.main) want f.conditional in
      let c = option_parts (1 + option_size f.main + conditional_size f.conditional) want f.placeholder in
      rw (option_is 1 want f.main, conditional_is (1 + option_size f.main) want f.conditional, option_is (1 + option_size f.main + conditional_size f.conditional) want f.placeholder)
      (ap (λ (r : Result ⊤ ℕ). parts_as a >>= λ _. r) (then_all b c) ∙ then_all a (b ++ c))

  root_ok : (b : Bool) (n : ℕ) (want u : FactType) → same_type u want ≡ b → cond b fine (failed n) ≡ fine → u ≡ want
  root_ok true n want u e h = same_is u want e
  root_ok false n want u e h = absurd cc

  root_err : (b : Bool) (n m : ℕ) (want u : FactType) → same_type u want ≡ b → cond b fine (failed n) ≡ failed m → (m ≡ n) × (u ≢ want)
  root_err true n m want u e h = absurd cc
  root_err false n m want u e h = (cc, (λ s. true≢false (sym (same_itself want) ∙ sym (ap (λ (v : FactType). same_type v want) s) ∙ e)))

  expr_ok : (p : Part) → expr_as ty p.start p.want p.tree ≡ Ok tt → HasType ty 0 p.tree p.want
  expr_ok p e =
      let k = bind_ok (type_of ty p.start 0 p.tree) (λ u. root_as p.start p.want u) tt e in
      subst (HasType ty 0 p.tree) (root_ok (same_type k.0 p.want) p.start p.want k.0 refl k.2) (sound ty p.start 0 p.tree k.0 k.1)

  expr_err : (p : Part) (m : ℕ) → expr_as ty p.start p.want p.tree ≡ Err m → IsFaultOf ty p m
  expr_err p m e =
      elim (bind_err (type_of ty p.start 0 p.tree) (λ u. root_as p.start p.want u) m e) [
        | inl h ↦ inr (first_fault ty p.start 0 p.tree m h)
        | inr k ↦ let r = root_err (same_type k.0 p.want) p.start m p.want k.0 refl k.2 in
            inl (r.0, k.0, sound ty p.start 0 p.tree k.0 k.1, r.1)
      ]

  parts_ok : (ps : List Part) → parts_as ps ≡ Ok tt → HaveWanted ty ps
  parts_ok [] e = tt
  parts_ok (p ∷ ps) e =
      let k = bind_ok (expr_as ty p.start p.want p.tree) (λ _. parts_as ps) tt e in
      (expr_ok p k.1, parts_ok ps k.2)

  parts_err : (ps : List Part) (m : ℕ) → parts_as ps ≡ Err m → IsFirstOf ty ps m
  parts_err [] m e = absurd cc
  parts_err (p ∷ ps) m e =
      elim (bind_err (expr_as ty p.start p.want p.tree) (λ _. parts_as ps) m e) [
        | inl h ↦ inl (expr_err p m h)
        | inr k ↦ inr (expr_ok p k.1, parts_err ps m k.2)
      ]

-- ---- a fact

fact_ok : (d : Dictionary) (n : ℕ) (f : Fact) (t : FactType) → fact_typed d n f ≡ Ok t → IsTypedFact d n f t
fact_ok d n f t e =
    let want = bind_ok (ok_or {E = ℕ} (stated_type d f) 0) (λ w. nodes_as (types_in d n) w f >>= λ _. Ok w) t e in
    let all = bind_ok (nodes_as (types_in d n) want.0 f) (λ _. Ok want.0) t want.2 in
    let same : want.0 ≡ t = goods want.0 t all.2 in
    let has = parts_ok (types_in d n) (fact_parts want.0 f) (sym (nodes_are (types_in d n) want.0 f) ∙ all.1) in
    subst (IsTypedFact d n f) same (stated (stated_type d f) want.0 want.1, has)
  where
    stated : (o : Option FactType) (w : FactType) → ok_or {E = ℕ} o 0 ≡ Ok w → o ≡ Some w
    stated None w h = absurd cc
    stated (Some v) w h = cc

fact_err : (d : Dictionary) (n : ℕ) (f : Fact) (m : ℕ) → fact_typed d n f ≡ Err m → IsFirstNode d n f m
fact_err d n f m e = by (stated_type d f) refl e
  where
    by : (o : Option FactType) → stated_type d f ≡ o → (ok_or {E = ℕ} o 0 >>= λ w. nodes_as (types_in d n) w f >>= λ _. good w) ≡ Err m → IsFirstNode d n f m
    by None s h = inl ((let k : m ≡ 0 = cc in k), s)
    by (Some w) s h =
        elim (bind_err (nodes_as (types_in d n) w f) (λ _. good w) m h) [
          | inl k ↦ inr (w, s, parts_err (types_in d n) (fact_parts w f) m (sym (nodes_are (types_in d n) w f) ∙ k))
          | inr k ↦ absurd (let z : good w ≡ Err m = k.2 in cc)
        ]

at_ok : {X : Type 0} (n : ℕ) (r : Result X ℕ) (x : X) → at_fact n r ≡ Ok x → r ≡ Ok x
at_ok n (Ok y) x e = cc
at_ok n (Err m) x e = absurd cc

at_err : {X : Type 0} (n : ℕ) (r : Result X ℕ) (fault : TypeFault) → at_fact n r ≡ Err fault → (m : ℕ) × (fault ≡ faults.IllTyped n m) × (r ≡ Err m)
at_err n (Ok y) fault e = absurd cc
at_err n (Err m) fault e = (m, (let k : faults.IllTyped n m ≡ fault = cc in sym k), refl)

abbrev pub kept : Dictionary → Fact → FactType → TypedFact
kept d f t = record { stated = t; constants = fact_values d.enums f }

typed_ok : (d : Dictionary) (n : ℕ) (f : Fact) (t : TypedFact) → typed_fact d n f ≡ Ok t → IsTypedFact d n f t.stated × (t.constants ≡ fact_values d.enums f)
typed_ok d n f t e =
    let k = bind_ok (at_fact n (fact_typed d n f)) (λ u. Ok (kept d f u)) t e in
    let same : kept d f k.0 ≡ t = goods (kept d f k.0) t k.2 in
    let has = fact_ok d n f k.0 (at_ok n (fact_typed d n f) k.0 k.1) in
    (subst (λ (u : TypedFact). IsTypedFact d n f u.stated) same has, sym (ap (λ (u : TypedFact). u.constants) same))

typed_err : (d : Dictionary) (n : ℕ) (f : Fact) (fault : TypeFault) → typed_fact d n f ≡ Err fault → (m : ℕ) × (fault ≡ faults.IllTyped n m) × IsFirstNode d n f m
typed_err d n f fault e =
    elim (bind_err (at_fact n (fact_typed d n f)) (λ u. Ok (kept d f u)) fault e) [
      | inl h ↦ let k = at_err n (fact_typed d n f) fault h in (k.0, k.1, fact_err d n f k.0 k.2)
      | inr k ↦ absurd (let z : good (kept d f k.0) ≡ Err fault = k.2 in cc)
    ]

-- ---- all facts

facts_ok : (d : Dictionary) (n : ℕ) (fs : List Fact) (ts : List TypedFact) → typed_facts d n fs ≡ Ok ts → AreTypedFacts d n fs ts
facts_ok d n [] ts e = subst (AreTypedFacts d n []) (goods [] ts e) tt
facts_ok d n (f ∷ fs) ts e =
    let k = bind_ok (typed_fact d n f) (λ t. typed_facts d (suc n) fs >>= λ us. Ok (t ∷ us)) ts e in
    let l = bind_ok (typed_facts d (suc n) fs) (λ us. Ok (k.0 ∷ us)) ts k.2 in
    let has = typed_ok d n f k.0 k.1 in
    subst (AreTypedFacts d n (f ∷ fs)) (goods (k.0 ∷ l.0) ts l.2) (has.0, has.1, facts_ok d (suc n) fs l.0 l.1)

facts_err : (d : Dictionary) (n : ℕ) (fs : List Fact) (fault : TypeFault) → typed_facts d n fs ≡ Err fault → IsFirstIllTyped d n fs fault
facts_err d n [] fault e = absurd cc
facts_err d n (f ∷ fs) fault e =
    elim (bind_err (typed_fact d n f) (λ t. typed_facts d (suc n) fs >>= λ us. Ok (t ∷ us)) fault e) [
      | inl h ↦ inl (typed_err d n f fault h)
      | inr k ↦ elim (bind_err (typed_facts d (suc n) fs) (λ us. Ok (k.0 ∷ us)) fault k.2) [
        | inl h ↦ inr (k.0.stated, (typed_ok d n f k.0 k.1).0, facts_err d (suc n) fs fault h)
        | inr l ↦ absurd (let z : good (k.0 ∷ l.0) ≡ Err fault = l.2 in cc)
      ]
    ]

or_bad_ok : (n : ℕ) (o : Option (List Limit)) (ls : List Limit) → or_bad_limit n o ≡ Ok ls → o ≡ Some ls
or_bad_ok n None ls e = absurd cc
or_bad_ok n (Some l) ls e = cc

or_bad_err : (n : ℕ) (o : Option (List Limit)) (fault : TypeFault) → or_bad_limit n o ≡ Err fault → (fault ≡ faults.BadLimit n) × (o ≡ None)
or_bad_err n None fault e = ((let k : faults.BadLimit n ≡ fault = cc in sym k), refl)
or_bad_err n (Some l) fault e = absurd cc

limits_ok : (names : List (List ℕ)) (d : Dictionary) (n : ℕ) (fs : List Fact) (ls : List (List Limit)) → limits_of names d n fs ≡ Ok ls → AreLimits names d fs ls
limits_ok names d n [] ls e = subst (AreLimits names d []) (goods [] ls e) tt
limits_ok names d n (f ∷ fs) ls e =
    let k = bind_ok (or_bad_limit n (fact_limits names d.enums f)) (λ l. limits_of names d (suc n) fs >>= λ ms. Ok (l ∷ ms)) ls e in
    let m = bind_ok (limits_of names d (suc n) fs) (λ ms. Ok (k.0 ∷ ms)) ls k.2 in
    subst (AreLimits names d (f ∷ fs)) (goods (k.0 ∷ m.0) ls m.2) (or_bad_ok n (fact_limits names d.enums f) k.0 k.1, limits_ok names d (suc n) fs m.0 m.1)

limits_err : (names : List (List ℕ)) (d : Dictionary) (n : ℕ) (fs : List Fact) (fault : TypeFault) → limits_of names d n fs ≡ Err fault → IsFirstBadLimit names d n fs fault
limits_err names d n [] fault e = absurd cc
limits_err names d n (f ∷ fs) fault e =
    elim (bind_err (or_bad_limit n (fact_limits names d.enums f)) (λ l. limits_of names d (suc n) fs >>= λ ms. Ok (l ∷ ms)) fault e) [
      | inl h ↦ inl (or_bad_err n (fact_limits names d.enums f) fault h)
      | inr k ↦ elim (bind_err (limits_of names d (suc n) fs) (λ ms. Ok (k.0 ∷ ms)) fault k.2) [
        | inl h ↦ inr (k.0, or_bad_ok n (fact_limits names d.enums f) k.0 k.1, limits_err names d (suc n) fs fault h)
        | inr l ↦ absurd (let z : good (k.0 ∷ l.0) ≡ Err fault = l.2 in cc)
      ]
    ]

-- ---- the dictionary

or_ok : (o : Option TypeFault) → or_fault o ≡ Ok tt → o ≡ None
or_ok None e = refl
or_ok (Some fault) e = absurd cc

or_err : (o : Option TypeFault) (fault : TypeFault) → or_fault o ≡ Err fault → o ≡ Some fault
or_err None fault e = absurd cc
or_err (Some k) fault e = cc

abbrev found : List TypedFact → List (List Limit) → TypedDictionary
found fs ls = record { facts = fs; limits = ls }

pub typed_is_well_typed : (d : Dictionary) (names : List (List ℕ)) (t : TypedDictionary) → typed_dictionary d names ≡ Ok t → IsTypedDictionary d names t
typed_is_well_typed d names t e =
    let a = bind_ok (or_fault (fault_by_rules d names rule_order)) (λ _. typed_facts d 1 d.facts >>= λ fs. limits_of names d 1 d.facts >>= λ ls. Ok (found fs ls)) t e in
    let b = bind_ok (typed_facts d 1 d.facts) (λ fs. limits_of names d 1 d.facts >>= λ ls. Ok (found fs ls)) t a.2 in
    let c = bind_ok (limits_of names d 1 d.facts) (λ ls. Ok (found b.0 ls)) t b.2 in
    subst (IsTypedDictionary d names) (goods (found b.0 c.0) t c.2)
    (are_kept d names rule_order (or_ok (fault_by_rules d names rule_order) a.1), facts_ok d 1 d.facts b.0 b.1, limits_ok names d 1 d.facts c.0 c.1)

pub fault_is_first : (d : Dictionary) (names : List (List ℕ)) (fault : TypeFault) → typed_dictionary d names ≡ Err fault → IsFirstFault d names fault
fault_is_first d names fault e =
    elim (bind_err (or_fault (fault_by_rules d names rule_order)) (λ _. typed_facts d 1 d.facts >>= λ fs. limits_of names d 1 d.facts >>= λ ls. Ok (found fs ls)) fault e) [
      | inl h ↦ inl (is_first_broken d names rule_order fault (or_err (fault_by_rules d names rule_order) fault h))
      | inr a ↦ let all = are_kept d names rule_order (or_ok (fault_by_rules d names rule_order) a.1) in
          elim (bind_err (typed_facts d 1 d.facts) (λ fs. limits_of names d 1 d.facts >>= λ ls. Ok (found fs ls)) fault a.2) [
            | inl h ↦ inr (inl (all, facts_err d 1 d.facts fault h))
            | inr b ↦ elim (bind_err (limits_of names d 1 d.facts) (λ ls. Ok (found b.0 ls)) fault b.2) [
              | inl h ↦ inr (inr (all, b.0, facts_ok d 1 d.facts b.0 b.1, limits_err names d 1 d.facts fault h))
              | inr c ↦ absurd (let z : good (found b.0 c.0) ≡ Err fault = c.2 in cc)
            ]
          ]
    ]

-- ---- how many they are

pub facts_length : (d : Dictionary) (n : ℕ) (fs : List Fact) (ts : List TypedFact) → AreTypedFacts d n fs ts → length ts ≡ length fs
facts_length d n [] [] h = refl
facts_length d n [] (t ∷ ts) h = absurd h
facts_length d n (f ∷ fs) [] h = absurd h
facts_length d n (f ∷ fs) (t ∷ ts) h = ap suc (facts_length d (suc n) fs ts h.2)

pub limits_length : (names : List (List ℕ)) (d : Dictionary) (fs : List Fact) (ls : List (List Limit)) → AreLimits names d fs ls → length ls ≡ length fs
limits_length names d [] [] h = refl
limits_length names d [] (l ∷ ls) h = absurd h
limits_length names d (f ∷ fs) [] h = absurd h
limits_length names d (f ∷ fs) (l ∷ ls) h = ap suc (limits_length names d fs ls h.1)

abbrev Found : Written → List (List ℕ) → Result TypedDictionary TypeFault → Type 0
Found w names r = Finds (λ t. t) (typed_dictionary (dictionary_view w) names) r

pub found_typed : (w : Written) (names : List (List ℕ)) (r : Result TypedDictionary TypeFault) → Found w names r → IfOk r (IsTypedDictionary (dictionary_view w) names)
found_typed w names (Ok t) h = typed_is_well_typed (dictionary_view w) names t h
found_typed w names (Err e) h = tt

pub found_refused : (w : Written) (names : List (List ℕ)) (r : Result TypedDictionary TypeFault) → Found w names r → IfErr r (Refuses (IsFirstFault (dictionary_view w) names))
found_refused w names (Ok t) h = tt
found_refused w names (Err faults.NoMemory) h = tt
found_refused w names (Err (faults.BadPath n)) h = fault_is_first (dictionary_view w) names (faults.BadPath n) h
found_refused w names (Err (faults.DuplicatePath n)) h = fault_is_first (dictionary_view w) names (faults.DuplicatePath n) h
found_refused w names (Err (faults.NoCollection n)) h = fault_is_first (dictionary_view w) names (faults.NoCollection n) h
found_refused w names (Err (faults.UnknownPath n)) h = fault_is_first (dictionary_view w) names (faults.UnknownPath n) h
found_refused w names (Err (faults.WrongPlace n)) h = fault_is_first (dictionary_view w) names (faults.WrongPlace n) h
found_refused w names (Err (faults.UnknownCheck n)) h = fault_is_first (dictionary_view w) names (faults.UnknownCheck n) h
found_refused w names (Err (faults.IllTyped n node)) h = fault_is_first (dictionary_view w) names (faults.IllTyped n node) h
found_refused w names (Err (faults.BadLimit n)) h = fault_is_first (dictionary_view w) names (faults.BadLimit n) h

pub found_facts : (w : Written) (names : List (List ℕ)) (r : Result TypedDictionary TypeFault) → Found w names r → IfOk r (λ t. length t.facts ≡ length w.facts)
found_facts w names (Ok t) h = facts_length (dictionary_view w) 1 (dictionary_view w).facts t.facts (typed_is_well_typed (dictionary_view w) names t h).1 ∙ length-map w.facts fact_view
found_facts w names (Err e) h = tt

pub found_limits : (w : Written) (names : List (List ℕ)) (r : Result TypedDictionary TypeFault) → Found w names r → IfOk r (λ t. length t.limits ≡ length w.facts)
found_limits w names (Ok t) h = limits_length names (dictionary_view w) (dictionary_view w).facts t.limits (typed_is_well_typed (dictionary_view w) names t h).2 ∙ length-map w.facts fact_view
found_limits w names (Err e) h = tt
