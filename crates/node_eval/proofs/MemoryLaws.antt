-- An evaluation of a typed node takes memory only where some expression of it has a type whose values hold memory.
use Rattle.std.proofs.Common.{◌≡◌, ◌∙◌, subst, ◌&&◌, ℕ, ℤ, pos, Bool, true, false, if◌then◌else◌, List, [], ◌∷◌, ◌++◌, count_by, flat_map, Option, Some, None, Ok, refl, sym, inl, inr}
use Rattle.std.specs.Prelude.{option_and_then, unwrap_or}
use Rattle.fact_values.specs.declared.fact_type.FactType.{FactType}
use Rattle.fact_values.specs.declared.fact_type.FactType.TheVariants as types
use Rattle.fact_values.specs.declared.slot.Slot.{Slot}
use Rattle.fact_values.specs.declared.value.Value.{Value}
use Rattle.fact_values.specs.declared.value.Value.TheVariants.{Int, Text, Members, Item}
use Rattle.fact_values.specs.Values.{HoldsMemory}
use Rattle.dict_source.specs.Tree.{literal, read, switch, many, one, two, pick, Trees, no_trees, tree, Cases, no_cases, a_case, nodes, nodes_of_cases, nodes_of_trees}
use Rattle.dict_source.specs.OperandTypes.{one_type, same_type}
use Rattle.dict_source.specs.Tables.{LookupTable}
use Rattle.dict_source.specs.Typing.{HasType, HaveCaseTypes, HaveTypes}
use Rattle.dict_source.specs.declared.operators.OneOp.{OneOp}
use Rattle.dict_source.specs.declared.operators.OneOp.TheVariants.{Lookup}
use Rattle.dict_source.specs.declared.operators.PickOp.TheVariants.{Filter, Find}
use Rattle.three_state.specs.declared.res.Res.{Res}
use Rattle.three_state.specs.declared.res.Res.TheVariants.{Complete, Placeholder, Incomplete, Fault}
use Rattle.three_state.specs.Results.{ValueHoldsMemory, after_verdict, field_operands, fields_in, members_of, truth, values_of, verdict_of}
use Rattle.three_state.specs.declared.strict.Verdict.{Verdict}
use Rattle.three_state.specs.declared.strict.Verdict.TheVariants as verdict
use Rattle.evaluation.specs.Mentioned.{AllOf}
use Rattle.evaluation.specs.Operations.{GivesText}
use Rattle.evaluation.specs.Over.{over}
use Rattle.evaluation.specs.Reads.{collection_size, complete_test, sum_over, through_item}
use Rattle.evaluation.specs.SlotsRead.{after_condition, item_read, slots_read_of_all, slots_read_of_cases, up_to_decider}
use Rattle.evaluation.specs.Typed.{Domains, IsOfType, IsResOfType}
use Rattle.common_lemmas.proofs.Bools.{chosen}
use Rattle.evaluation.proofs.Mentions.{all-left, all-right}
use Rattle.evaluation.proofs.TypedLaws.{down-type, sum-typed}
use Rattle.evaluation.specs.Results.{Results, result_at, slot}
use Rattle.node_eval.specs.Memory.{AfterCondition, Chosen, SomeOf, TakesInAll, TakesInCases, TakesMemory}
use Rattle.node_eval.specs.NodeTypes.{FactTypes, IsTextOrList, GivesTextOrList, IsTyped, IsTypedCell, SomeGivesTextOrList, behind, constant_type, dependency_type, item_base, node_types, read_type}
use Rattle.node_eval.specs.Dependencies.{collection, dependency, entered, field, node_env, read_result}
use Rattle.node_eval.specs.SlotsOf.{dependency_slots, node_reads, read_slots, slot_at, slots_of}
use Rattle.node_eval.specs.View.{Compiled, Reading}
use Rattle.node_eval.specs.declared.node.NodeRead.{NodeRead}
use Rattle.node_eval.specs.declared.node.NodeRead.TheVariants as node_read
use Rattle.node_eval.specs.declared.node.ResolvedPath.{ResolvedPath}
use Rattle.node_eval.specs.declared.node.ResolvedPath.TheVariants.{Global, Same, Inner, Each, Through, SameThrough}
use Rattle.node_eval.specs.declared.node_position.NodePosition.{NodePosition}

-- ---- lists

some-left : {X : Type 0} (M : X → Type 0) (xs ys : List X) → SomeOf M xs → SomeOf M (xs ++ ys)
some-left M [] ys h = absurd h
some-left M (x ∷ xs) ys (inl h) = inl h
some-left M (x ∷ xs) ys (inr h) = inr (some-left M xs ys h)

some-right : {X : Type 0} (M : X → Type 0) (xs ys : List X) → SomeOf M ys → SomeOf M (xs ++ ys)
some-right M [] ys h = h
some-right M (x ∷ xs) ys h = inr (some-right M xs ys h)

-- of two lists that go together
some-both : {X Y : Type 0} (M : X → Type 0) (N : Y → Type 0) (f : Y → List X) (Goal : Type 0) → ((y : Y) → N y → AllOf M (f y) → Goal) → (ys : List Y) → SomeOf N ys → AllOf M (flat_map f ys) → Goal
some-both M N f Goal use_it [] h all = absurd h
some-both M N f Goal use_it (y ∷ ys) (inl h) all = use_it y h (all-left M (f y) (flat_map f ys) all)
some-both M N f Goal use_it (y ∷ ys) (inr h) all = some-both M N f Goal use_it ys h (all-right M (f y) (flat_map f ys) all)

-- ---- a value of a type

value-kept : (d : Domains) (v : Value) (t : FactType) → IsOfType d v t → HoldsMemory v → IsTextOrList t
value-kept d v types.Text h holds = tt
value-kept d v (types.Collection c) h holds = tt
value-kept d (Text s) t h holds = absurd h
value-kept d (Members ms) t h holds = absurd h
value-kept d v t h holds = absurd cc

res-kept : (d : Domains) (r : Res) (t : FactType) → IsResOfType d r t → ValueHoldsMemory r → IsTextOrList t
res-kept d (Complete v) t h holds = value-kept d v t h holds
res-kept d (Placeholder v) t h holds = value-kept d v t h holds
res-kept d Incomplete t h holds = absurd holds
res-kept d (Fault fault) t h holds = absurd holds

constant-kept : (v : Value) (t : FactType) → constant_type v ≡ Some t → HoldsMemory v → IsTextOrList t
constant-kept (Text s) types.Text e holds = tt
constant-kept _ _ e holds = absurd cc

-- an operation that gives texts
lookup-kept : (fits : LookupTable → Bool) (op : OneOp) (u t : FactType) → one_type fits op u ≡ Some t → GivesText op → IsTextOrList t
lookup-kept fits (Lookup table) u t m text =
    subst IsTextOrList (sym text ∙ (chosen (fits table && same_type u table.from) table.to t m).1) tt
lookup-kept fits op u t m text = absurd text

-- ---- what never holds memory

test-none : (r : Res) → ValueHoldsMemory (complete_test r) → ⊥
test-none r h = cc

size-none : (source : Res) → ValueHoldsMemory (collection_size source) → ⊥
size-none (Complete v) h = cc
size-none (Placeholder v) h = cc
size-none Incomplete h = h
size-none (Fault fault) h = h

number-none : (v : Verdict) (n : ℤ) → ValueHoldsMemory (after_verdict v (Ok (Int n))) → ⊥
number-none (verdict.Go true) n h = cc
number-none (verdict.Go false) n h = cc
number-none verdict.Incomplete n h = h
number-none (verdict.Fault fault) n h = h

-- ---- what a node reads has its type

module _ (d : Domains) (facts : FactTypes) (results : Results) where
  abbrev Cell : Slot → Type 0
  Cell = IsTypedCell d facts results

  found-typed : (o : Option Res) (t : FactType) → ((r : Res) → o ≡ Some r → IsResOfType d r t) → IsResOfType d (unwrap_or o Incomplete) t
  found-typed None t h = tt
  found-typed (Some r) t h = h r refl

  at-typed : (n m : ℕ) (t : FactType) → facts n ≡ Some t → Cell (slot n m) → IsResOfType d (result_at results (Some n) m) t
  at-typed n m t e cell = found-typed (results (slot n m)) t (λ r found. cell r found t e)

  -- from an item on
  behind-some : (o : Option ℕ) (u : Option FactType) (t : FactType) → behind o u ≡ Some t → u ≡ Some t
  behind-some (Some c) u t e = e
  behind-some None u t e = absurd cc

  through-typed : (item : Res) (by_item : List Slot) (m : ℕ) (t : FactType) → facts m ≡ Some t → AllOf Cell (item_read item by_item (slot_at (Some m))) → IsResOfType d (through_item item (result_at results (Some m))) t
  through-typed (Complete (Item k)) by_item m t e all = at-typed m k t e (all-right Cell by_item (slot m k ∷ []) all).0
  through-typed (Placeholder (Item k)) by_item m t e all = down-type d (result_at results (Some m) k) t (at-typed m k t e (all-right Cell by_item (slot m k ∷ []) all).0)
  through-typed (Complete v) by_item m t e all = tt
  through-typed (Placeholder v) by_item m t e all = tt
  through-typed _ by_item m t e all = tt

  dependency-typed : (at : NodePosition) (r : ResolvedPath) (t : FactType) → dependency_type facts r ≡ Some t → AllOf Cell (dependency_slots results at r) → IsResOfType d (dependency results at r) t
  dependency-typed at (Global n) t e all = at-typed n 0 t e all.0
  dependency-typed at (Same n) t e all = at-typed n at.own t e all.0
  dependency-typed at (Inner n) t e all = at-typed n at.inner t e all.0
  dependency-typed at (Each n m) t e all = absurd cc
  dependency-typed at (Through n m) t e all = through-typed (result_at results (Some n) 0) (slot n 0 ∷ []) m t (behind-some (option_and_then item_base (facts n)) (facts m) t e) all
  dependency-typed at (SameThrough n m) t e all = through-typed (result_at results (Some n) at.own) (slot n at.own ∷ []) m t (behind-some (option_and_then item_base (facts n)) (facts m) t e) all

  read-kept : (at : NodePosition) (op : NodeRead) (r : ResolvedPath) (t : FactType) → read_type facts op r ≡ Some t → AllOf Cell (read_slots results at op r) → ValueHoldsMemory (read_result results at op r) → IsTextOrList t
  read-kept at node_read.Dependency r t e all h = res-kept d (dependency results at r) t (dependency-typed at r t e all) h
  read-kept at node_read.IsComplete r t e all h = absurd (test-none (dependency results at r) h)
  read-kept at node_read.CollectionSize r t e all h = absurd (size-none (collection results r) h)
  read-kept at node_read.SumInt r t e all h =
      let source = collection results r in
      absurd (res-kept d (sum_over types.Int source (field results r)) types.Int (sum-typed d types.Int source (field results r) tt) h)
  read-kept at node_read.SumDollar r t e all h =
      let source = collection results r in
      absurd (res-kept d (sum_over types.Dollar source (field results r)) types.Dollar (sum-typed d types.Dollar source (field results r) tt) h)
  read-kept at node_read.Count r t e all h =
      let operands = field_operands (collection results r) (field results r) in
      absurd (number-none (verdict_of operands) (pos (count_by truth (fields_in (values_of operands)))) h)

  -- ---- what is read and what takes memory behind a condition

  by_truth : (b : Bool) (xs ys : List Slot) (Given Rest Goal : Type 0) → (AllOf Cell xs → Given → Goal) → (AllOf Cell ys → Rest → Goal)
      → AllOf Cell (if b then xs else ys) → Chosen b Given Rest → Goal
  by_truth true xs ys Given Rest Goal f g all k = f all k
  by_truth false xs ys Given Rest Goal f g all k = g all k

  by_condition : (r : Res) (xs ys : List Slot) (Given Rest Goal : Type 0) → (AllOf Cell xs → Given → Goal) → (AllOf Cell ys → Rest → Goal)
      → AllOf Cell (after_condition r xs ys) → AfterCondition r Given Rest → Goal
  by_condition (Complete v) xs ys Given Rest Goal f g all k = by_truth (truth v) xs ys Given Rest Goal f g all k
  by_condition (Placeholder v) xs ys Given Rest Goal f g all k = by_truth (truth v) xs ys Given Rest Goal f g all k
  by_condition Incomplete xs ys Given Rest Goal f g all k = absurd k
  by_condition (Fault fault) xs ys Given Rest Goal f g all k = absurd k

  -- ---- expressions

  mutual
    kept : (at : NodePosition) (t : Compiled) (b : ℕ) (u : FactType) → HasType (node_types facts) b t u → AllOf Cell (slots_of results at t) → TakesMemory (node_env results) at t → SomeOf (GivesTextOrList facts) (nodes t)
    kept at (literal c) b u h all k = inl (b, (u, (h, constant-kept c u h k)))
    kept at (read r) b u h all k = inl (b, (u, (h, read-kept at r.0 r.1 u h all k)))
    kept at (switch cs) b u h all k = inr (kept-cases at cs b u h.1 all k)
    kept at (many op ts) b u h all k = inr (kept-all at ts b h.0 h.1 all k)
    kept at (one op x) b u h all (inl k) = inr (kept at x b h.0 h.1 all k)
    kept at (one op x) b u h all (inr text) = inl (b, (u, (h, lookup-kept (node_types facts).fits op h.0 u h.2 text)))
    kept at (two op x y) b u h all (inl k) = inr (some-left (GivesTextOrList facts) (nodes x) (nodes y) (kept at x b h.0 h.2 (all-left Cell (slots_of results at x) (slots_of results at y) all) k))
    kept at (two op x y) b u h all (inr k) = inr (some-right (GivesTextOrList facts) (nodes x) (nodes y) (kept at y b h.1 h.3 (all-right Cell (slots_of results at x) (slots_of results at y) all) k))
    kept at (pick Filter r x) b u h all k = inl (b, (u, (h, subst IsTextOrList (sym h.3) tt)))
    kept at (pick Find r x) b u h all k =
        inr (some-both Cell (λ (m : ℕ). TakesMemory (node_env results) (entered at m) x) (λ (m : ℕ). slots_of results (entered at m) x) (SomeOf (GivesTextOrList facts) (nodes x))
        (λ m here cells. kept (entered at m) x h.0 types.Boolean h.2 cells here)
        (up_to_decider (λ m. over (node_env results) (entered at m) x) (members_of (collection results r))) k all.1)

    kept-all : (at : NodePosition) (ts : Trees Value Reading ResolvedPath) (b : ℕ) (us : List FactType) → HaveTypes (node_types facts) b ts us → AllOf Cell (slots_read_of_all (node_env results) (node_reads results) at ts)
        → TakesInAll (node_env results) at ts → SomeOf (GivesTextOrList facts) (nodes_of_trees ts)
    kept-all at no_trees b us h all k = absurd k
    kept-all at (tree x xs) b [] h all k = absurd h
    kept-all at (tree x xs) b (u ∷ us) h all (inl k) =
        some-left (GivesTextOrList facts) (nodes x) (nodes_of_trees xs) (kept at x b u h.0 (all-left Cell (slots_of results at x) (slots_read_of_all (node_env results) (node_reads results) at xs) all) k)
    kept-all at (tree x xs) b (u ∷ us) h all (inr k) =
        some-right (GivesTextOrList facts) (nodes x) (nodes_of_trees xs) (kept-all at xs b us h.1 (all-right Cell (slots_of results at x) (slots_read_of_all (node_env results) (node_reads results) at xs) all) k)

    kept-cases : (at : NodePosition) (cs : Cases Value Reading ResolvedPath) (b : ℕ) (u : FactType) → HaveCaseTypes (node_types facts) b cs u → AllOf Cell (slots_read_of_cases (node_env results) (node_reads results) at cs)
        → TakesInCases (node_env results) at cs → SomeOf (GivesTextOrList facts) (nodes_of_cases cs)
    kept-cases at no_cases b u h all k = absurd k
    kept-cases at (a_case x o cs) b u h all (inl k) =
        let rest = after_condition (over (node_env results) at x) (slots_of results at o) (slots_read_of_cases (node_env results) (node_reads results) at cs) in
        some-left (GivesTextOrList facts) (nodes x) (nodes o ++ nodes_of_cases cs) (kept at x b types.Boolean h.0 (all-left Cell (slots_of results at x) rest all) k)
    kept-cases at (a_case x o cs) b u h all (inr k) =
        let given = slots_of results at o in
        let rest = slots_read_of_cases (node_env results) (node_reads results) at cs in
        let r = over (node_env results) at x in
        some-right (GivesTextOrList facts) (nodes x) (nodes o ++ nodes_of_cases cs)
        (by_condition r given rest (TakesMemory (node_env results) at o) (TakesInCases (node_env results) at cs) (SomeOf (GivesTextOrList facts) (nodes o ++ nodes_of_cases cs))
        (λ cells here. some-left (GivesTextOrList facts) (nodes o) (nodes_of_cases cs) (kept at o b u h.1 cells here))
        (λ cells here. some-right (GivesTextOrList facts) (nodes o) (nodes_of_cases cs) (kept-cases at cs b u h.2 cells here))
        (all-right Cell (slots_of results at x) (after_condition r given rest) all) k)

pub typed-takes_memory : (d : Domains) (facts : FactTypes) (results : Results) (at : NodePosition) (t : Compiled) → IsTyped d facts results at t → TakesMemory (node_env results) at t → SomeGivesTextOrList facts t
typed-takes_memory d facts results at t typed k = kept d facts results at t 0 typed.type_of typed.node typed.cells k
