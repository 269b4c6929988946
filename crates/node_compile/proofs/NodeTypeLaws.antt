-- The node of a typed expression whose uses are in their places has the expression's type.
use Rattle.std.proofs.Common.{◌≡◌, ℕ, if◌then◌else◌, Bool, true, false, ◌&&◌, ◌||◌, List, [], ◌∷◌, Option, Some, None, refl, sym, ap, subst, ◌∙◌}
use Rattle.std.specs.Prelude.{is_some, option_and_then, option_map, unwrap_or, IfSome}
use Rattle.std.proofs.lemmas.Bool.{not-false}
use Rattle.fact_paths.specs.declared.use_path.UsePath.{UsePath}
use Rattle.fact_paths.specs.declared.use_path.UsePath.TheVariants.{Global, Sibling, Inner, Each, Through, SiblingThrough}
use Rattle.fact_values.specs.declared.fact_type.FactType.{FactType}
use Rattle.fact_values.specs.declared.fact_type.FactType.TheVariants.{Boolean, Int, Dollar, Day, Collection, Item}
use Rattle.fact_values.specs.declared.value.Value.{Value}
use Rattle.fact_values.specs.declared.value.Value.TheVariants as values
use Rattle.value_text.specs.Enums.{Listed}
use Rattle.dict_source.specs.declared.operators.OneOp.{OneOp}
use Rattle.dict_source.specs.declared.operators.OneOp.TheVariants.{Not, Round, YearOf, MonthOf, DayOf, Lookup}
use Rattle.dict_source.specs.declared.operators.PickOp.{PickOp}
use Rattle.dict_source.specs.declared.operators.ReadOp.{ReadOp}
use Rattle.dict_source.specs.declared.operators.ReadOp.TheVariants.{Dependency, IsComplete, CollectionSize, CollectionSum, Count}
use Rattle.dict_source.specs.declared.targets.Targets.{Targets}
use Rattle.dict_source.specs.Dictionary.{Dictionary as Tree}
use Rattle.dict_source.specs.Finding.{IsNumber}
use Rattle.dict_source.specs.Mentions.{condition_base}
use Rattle.dict_source.specs.OperandTypes.{one_type, same_type}
use Rattle.dict_source.specs.Tables.{LookupTable}
use Rattle.dict_source.specs.Targets.{item_base_at, targets}
use Rattle.dict_source.specs.Tree.{Literal, Source, Sources, SourceCases, literal, read, switch, many, one, two, pick, no_trees, tree, no_cases, a_case}
use Rattle.dict_source.specs.Typing.{HasType, HaveTypes, HaveCaseTypes, IsSomeCase}
use Rattle.dict_source.proofs.TargetsLaws.{AreTargets-first_within, AreTargets-second_within, targets-AreTargets}
use Rattle.dict_rules.specs.declared.use_op.UseOp.TheVariants as uses
use Rattle.node_types.specs.Constants.{literal_type, literal_value, value_type}
use Rattle.node_types.specs.FactTyping.{count_type, field_sum_type, known, last_target, path_type, size_type, target_type}
use Rattle.node_types.specs.StatedTypes.{base_number, type_at}
use Rattle.dict_rules.specs.Uses.{Condition, cases_have_use, condition_under, goes_through_members, has_use, reads_each, reads_fact, some_have_use}
use Rattle.dict_rules.specs.WrongPlace.{is_displaced, is_in_place, is_misplaced}
use Rattle.evaluation.specs.Resolving.{resolved, resolved_all, resolved_cases}
use Rattle.common_lemmas.proofs.Bools.{or_neither}
use Rattle.dict_meaning.specs.Dependencies.{constant_value}
use Rattle.dict_meaning.proofs.PlacedReads.{placed_types}
use Rattle.dict_meaning.proofs.ReadTypes.{item_target, known_is, list_target}
use Rattle.node_eval.specs.NodeTypes.{FactTypes, behind, collection_base, constant_type, counted, dependency_type, item_base, node_types, read_type, source_base}
use Rattle.node_eval.specs.NodeTypes as nodes
use Rattle.node_eval.specs.declared.node.NodeRead.TheVariants as node_read
use Rattle.node_eval.specs.declared.node.ResolvedPath.{ResolvedPath}
use Rattle.node_compile.specs.Compiling.{names, number, read_of, reading, resolved_path, resolved_use, sum_read}
use Rattle.node_compile.proofs.TargetLaws.{condition_lists, target_of_type, unsuited}

-- ---- constants

value_types : (v : Value) → constant_type v ≡ value_type v
value_types (values.Boolean b) = refl
value_types (values.Int n) = refl
value_types (values.Dollar n) = refl
value_types (values.Rational q) = refl
value_types (values.Day n) = refl
value_types (values.Text s) = refl
value_types (values.Choice list place) = refl
value_types (values.Members ms) = refl
value_types (values.Item m) = refl

value_has : (o : Option Value) (u : FactType) → option_and_then value_type o ≡ Some u → constant_type (unwrap_or o (values.Boolean false)) ≡ Some u
value_has None u e = absurd cc
value_has (Some v) u e = value_types v ∙ e

constant_has : (enums : List Listed) (c : Literal) (u : FactType) → literal_type enums c ≡ Some u → constant_type (constant_value enums c) ≡ Some u
constant_has enums c u e = value_has (literal_value enums c) u e

-- ---- operations

-- the type is the same where every table fits
any_fits : (fits : LookupTable → Bool) (op : OneOp) (u t : FactType) → one_type fits op u ≡ Some t → one_type (λ table. true) op u ≡ Some t
any_fits fits (Lookup table) u t m = any_test (fits table) (same_type u table.from) table.to t m
  where
    any_test : (fit same : Bool) (to u : FactType) → (if fit && same then Some to else None) ≡ Some u → (if same then Some to else None) ≡ Some u
    any_test true same to u e = e
    any_test false same to u e = absurd cc
any_fits fits Not Boolean t m = m
any_fits fits Round Dollar t m = m
any_fits fits YearOf Day t m = m
any_fits fits MonthOf Day t m = m
any_fits fits DayOf Day t m = m
any_fits fits _ _ t m = absurd cc

-- ---- leaves that read, from the types of their targets

module _ (facts : FactTypes) where
  -- a field behind an item or a list of this base
  module _ (first second : Option ℕ) (n m c : ℕ) (is_first : first ≡ Some n) (is_second : second ≡ Some m) where
    behind_item : facts n ≡ Some (Item c) → behind (option_and_then item_base (facts (number first))) (facts (number second)) ≡ facts m
    behind_item e = rw (is_first, is_second, e) refl

    behind_list : facts n ≡ Some (Collection c) → behind (option_and_then collection_base (facts (number first))) (facts (number second)) ≡ facts m
    behind_list e = rw (is_first, is_second, e) refl

  size_by : (o : Option FactType) (u : FactType) → option_and_then size_type o ≡ Some u → option_map (λ c. Int) (option_and_then collection_base o) ≡ Some u
  size_by (Some (Collection c)) u e = e
  size_by _ u e = absurd cc

  sum_by_type : (r : ResolvedPath) (o : Option FactType) (u : FactType) → nodes.field_type facts r ≡ o → option_and_then field_sum_type o ≡ Some u → read_type facts (sum_read (unwrap_or o Int)) r ≡ Some u
  sum_by_type r (Some Int) u f e = ap (option_and_then nodes.int_sum) f ∙ e
  sum_by_type r (Some Dollar) u f e = ap (option_and_then nodes.dollar_sum) f ∙ e
  sum_by_type r _ u f e = absurd cc

  count_by_type : (o : Option FactType) (u : FactType) → option_and_then count_type o ≡ Some u → option_and_then counted o ≡ Some u
  count_by_type (Some Boolean) u e = e
  count_by_type _ u e = absurd cc

-- ---- leaves that read, in a fact

-- each fact has a type
abbrev pub HaveFactTypes : Tree → Type 0
HaveFactTypes d = (n : ℕ) → IsNumber d.facts n → (t : FactType) × (type_at d n ≡ Some t)

module _ (d : Tree) (fact base : ℕ) where
  abbrev targets_of : UsePath → Targets
  targets_of path = targets d fact base path

  -- ---- what one fact is read by

  -- not `/N/*/M`
  abbrev names_one : UsePath → Bool
  names_one (Each n m) = false
  names_one _ = true

  through_has : (first second : Option ℕ) (n m : ℕ) (b : List ℕ) (u : FactType) → first ≡ Some n → second ≡ Some m → item_base_at d n ≡ Some b → type_at d m ≡ Some u
      → behind (option_and_then item_base (type_at d (number first))) (type_at d (number second)) ≡ Some u
  through_has first second n m b u f s e k = behind_item (type_at d) first second n m (base_number d (Some b)) f s (item_target d (Some n) b e) ∙ k

  once_has : (first : Option ℕ) (m : ℕ) (u : FactType) → first ≡ Some m → type_at d m ≡ Some u → type_at d (number first) ≡ Some u
  once_has first m u e k = ap (λ o. type_at d (number o)) e ∙ k

  dependency_has : (path : UsePath) (m : ℕ) (u : FactType) → names_one path ≡ true → last_target path (targets_of path) ≡ Some m → type_at d m ≡ Some u → dependency_type (type_at d) (resolved_path path (targets_of path)) ≡ Some u
  dependency_has (Global n) m u h e k = once_has (targets_of (Global n)).first m u e k
  dependency_has (Sibling n) m u h e k = once_has (targets_of (Sibling n)).first m u e k
  dependency_has (Inner n) m u h e k = once_has (targets_of (Inner n)).first m u e k
  dependency_has (Each n x) m u h e k = absurd cc
  dependency_has (Through n x) m u h e k =
      let t = targets_of (Through n x) in
      let s = ((targets-AreTargets d fact base (Through n x)).second m).0 e in
      through_has t.first t.second s.0 m s.2.0 u s.1 e s.2.1 k
  dependency_has (SiblingThrough n x) m u h e k =
      let t = targets_of (SiblingThrough n x) in
      let s = ((targets-AreTargets d fact base (SiblingThrough n x)).second m).0 e in
      through_has t.first t.second s.0 m s.2.0 u s.1 e s.2.1 k

  -- what reads one fact reads no field of each member
  not_both : (op : ReadOp) → reads_fact (uses.Read op) ≡ true → reads_each (uses.Read op) ≡ true → ⊥
  not_both Dependency r h = cc
  not_both IsComplete r h = cc
  not_both CollectionSize r h = cc
  not_both CollectionSum r h = cc
  not_both Count r h = cc

  in_place_names : (op : ReadOp) (c : Condition) (path : UsePath) → reads_fact (uses.Read op) ≡ true → is_in_place d fact (uses.Read op) c path ≡ true → names_one path ≡ true
  in_place_names op c (Each n m) r h = absurd (not_both op r h)
  in_place_names op c (Global n) r h = refl
  in_place_names op c (Sibling n) r h = refl
  in_place_names op c (Inner n) r h = refl
  in_place_names op c (Through n m) r h = refl
  in_place_names op c (SiblingThrough n m) r h = refl

  within : (P : ℕ → Type 0) (o : Option ℕ) (m : ℕ) → IfSome o P → o ≡ Some m → P m
  within P None m h e = absurd cc
  within P (Some n) m h e = let same : n ≡ m = cc in subst P same h

  first_number : (path : UsePath) (m : ℕ) → (targets_of path).first ≡ Some m → IsNumber d.facts m
  first_number path m e = within (IsNumber d.facts) (targets_of path).first m (AreTargets-first_within d fact base path (targets_of path) (targets-AreTargets d fact base path)) e

  second_number : (path : UsePath) (m : ℕ) → (targets_of path).second ≡ Some m → IsNumber d.facts m
  second_number path m e = within (IsNumber d.facts) (targets_of path).second m (AreTargets-second_within d fact base path (targets_of path) (targets-AreTargets d fact base path)) e

  -- the last target is a fact
  last_number : (path : UsePath) (m : ℕ) → last_target path (targets_of path) ≡ Some m → IsNumber d.facts m
  last_number (Global n) m e = first_number (Global n) m e
  last_number (Sibling n) m e = first_number (Sibling n) m e
  last_number (Inner n) m e = first_number (Inner n) m e
  last_number (Each n x) m e = second_number (Each n x) m e
  last_number (Through n x) m e = second_number (Through n x) m e
  last_number (SiblingThrough n x) m e = second_number (SiblingThrough n x) m e

  -- ---- what the members of a collection are read by

  size_has : (c : Condition) (path : UsePath) (m : ℕ) (u : FactType) → is_in_place d fact (uses.Read CollectionSize) c path ≡ true → last_target path (targets_of path) ≡ Some m → option_and_then size_type (type_at d m) ≡ Some u
      → read_type (type_at d) node_read.CollectionSize (resolved_path path (targets_of path)) ≡ Some u
  size_has c (Global n) m u h e k = ap (λ o. option_map (λ c. Int) (option_and_then collection_base (type_at d (number o)))) e ∙ size_by (type_at d) (type_at d m) u k
  size_has c _ m u h e k = absurd cc

  field_has : (n x : List ℕ) (m : ℕ) → (targets_of (Each n x)).second ≡ Some m → nodes.field_type (type_at d) (resolved_path (Each n x) (targets_of (Each n x))) ≡ type_at d m
  field_has n x m e =
      let t = targets_of (Each n x) in
      let s = ((targets-AreTargets d fact base (Each n x)).second m).0 e in
      behind_list (type_at d) t.first t.second s.0 m (base_number d (Some s.2.0)) s.1 e (list_target d (Some s.0) s.2.0 s.2.1)

  sum_has : (c : Condition) (path : UsePath) (m : ℕ) (u : FactType) → is_in_place d fact (uses.Read CollectionSum) c path ≡ true → last_target path (targets_of path) ≡ Some m → option_and_then field_sum_type (type_at d m) ≡ Some u
      → read_type (type_at d) (read_of d (targets_of path) CollectionSum) (resolved_path path (targets_of path))
      ≡ Some u
  sum_has c (Each n x) m u h e k =
      let t = targets_of (Each n x) in
      let kind = ap (option_and_then (type_at d)) e in
      ap (λ (o : Option FactType). read_type (type_at d) (sum_read (unwrap_or o Int)) (resolved_path (Each n x) t)) kind
      ∙ sum_by_type (type_at d) (resolved_path (Each n x) t) (type_at d m) u (field_has n x m e) k
  sum_has c _ m u h e k = absurd cc

  count_has : (c : Condition) (path : UsePath) (m : ℕ) (u : FactType) → is_in_place d fact (uses.Read Count) c path ≡ true → last_target path (targets_of path) ≡ Some m → option_and_then count_type (type_at d m) ≡ Some u
      → read_type (type_at d) node_read.Count (resolved_path path (targets_of path)) ≡ Some u
  count_has c (Each n x) m u h e k = ap (option_and_then counted) (field_has n x m e) ∙ count_by_type (type_at d) (type_at d m) u k
  count_has c _ m u h e k = absurd cc

  -- ---- any leaf that reads

  module _ (has_types : HaveFactTypes d) where
    path_has : (op : ReadOp) (c : Condition) (path : UsePath) (m : ℕ) (u : FactType) → is_in_place d fact (uses.Read op) c path ≡ true → last_target path (targets_of path) ≡ Some m → target_type d op (Some m) ≡ Some u
        → read_type (type_at d) (read_of d (targets_of path) op) (resolved_path path (targets_of path)) ≡ Some u
    path_has Dependency c path m u h e k = dependency_has path m u (in_place_names Dependency c path refl h) e k
    path_has IsComplete c path m u h e k =
        let t = has_types m (last_number path m e) in
        ap (option_map (λ t. Boolean)) (dependency_has path m t.0 (in_place_names IsComplete c path refl h) e t.1) ∙ k
    path_has CollectionSize c path m u h e k = size_has c path m u h e k
    path_has CollectionSum c path m u h e k = sum_has c path m u h e k
    path_has Count c path m u h e k = count_has c path m u h e k

    leaf_has : (op : ReadOp) (c : Condition) (path : Option UsePath) (u : FactType) → is_displaced d fact (uses.Read op) c path ≡ false → path_type d fact base op path ≡ Some u
        → read_type (type_at d) (reading d fact base op path).0 (reading d fact base op path).1 ≡ Some u
    leaf_has op c None u h e = absurd cc
    leaf_has op c (Some path) u h e =
        let last = target_of_type d fact base op (last_target path (targets_of path)) u e in
        path_has op c path last.0 u (not-false (is_in_place d fact (uses.Read op) c path) h) last.1 last.2

  -- ---- the collection of a Filter or a Find

  list_has : (op : PickOp) (c : Condition) (path : Option UsePath) (k : ℕ) → is_displaced d fact (uses.Pick op) c path ≡ false → known (condition_base d fact base path) ≡ Some k → source_base (type_at d) (resolved_use d fact base path) ≡ Some k
  list_has op c None k h e = absurd cc
  list_has op c (Some (Global n)) k h e =
      let first = condition_lists d fact base (Global n) k e in
      ap (λ o. option_and_then collection_base (type_at d (number o))) first.is_there ∙ ap (option_and_then collection_base) first.of_type
  list_has op c (Some _) k h e = absurd cc

-- ---- expressions

module _ (d : Tree) (fact : ℕ) (has_types : HaveFactTypes d) where
  abbrev misplaced : Condition → Source → Bool
  misplaced c t = has_use (is_misplaced d fact) d fact c t

  some_case : (base : ℕ) (cs : SourceCases) → IsSomeCase cs → IsSomeCase (resolved_cases (names d fact) base cs)
  some_case base no_cases h = absurd h
  some_case base (a_case t o cs) h = tt

  mutual
    pub node_type : (t : Source) (base : ℕ) (c : Condition) (u : FactType) → misplaced c t ≡ false → HasType (placed_types d fact) base t u → (b : ℕ) → HasType (node_types (type_at d)) b (resolved (names d fact) base t) u
    node_type (literal l) base c u h k b = constant_has d.enums l u k
    node_type (read r) base c u h k b =
        let place = or_neither (goes_through_members (uses.Read r.0) && is_some c) (is_displaced d fact (uses.Read r.0) c r.1.path) h in
        leaf_has d fact base has_types r.0 c r.1.path u place.1 (unsuited r.0 r.1.path (path_type d fact base r.0 r.1.path) u k)
    node_type (switch cs) base c u h k b = (some_case base cs k.0, case_types cs base c u h k.1 b)
    node_type (many op ts) base c u h k b = (k.0, all_types ts base c k.0 h k.1 b, k.2)
    node_type (one op t) base c u h k b = (k.0, node_type t base c k.0 h k.1 b, any_fits (placed_types d fact).fits op k.0 u k.2)
    node_type (two op x y) base c u h k b =
        let parts = or_neither (misplaced c x) (misplaced c y) h in
        (k.0, k.1, node_type x base c k.0 parts.0 k.2 b, node_type y base c k.1 parts.1 k.3 b, k.4)
    node_type (pick op p t) base c u h k b =
        let inner = condition_base d fact base p.path in
        let parts = or_neither (is_misplaced d fact (uses.Pick op) c p) (misplaced (condition_under d fact c p) t) h in
        let place = or_neither (goes_through_members (uses.Pick op) && is_some c) (is_displaced d fact (uses.Pick op) c p.path) parts.0 in
        let under = subst (λ (n : ℕ). HasType (placed_types d fact) n t Boolean) (sym (known_is inner k.0 k.1)) k.2 in
        (k.0, list_has d fact base op c p.path k.0 place.1 k.1, node_type t inner (condition_under d fact c p) Boolean parts.1 under k.0, k.3)

    all_types : (ts : Sources) (base : ℕ) (c : Condition) (us : List FactType) → some_have_use (is_misplaced d fact) d fact c ts ≡ false → HaveTypes (placed_types d fact) base ts us → (b : ℕ) → HaveTypes (node_types (type_at d)) b (resolved_all (names d fact) base ts) us
    all_types no_trees base c [] h k b = tt
    all_types no_trees base c (u ∷ us) h k b = k
    all_types (tree t ts) base c [] h k b = k
    all_types (tree t ts) base c (u ∷ us) h k b =
        let parts = or_neither (misplaced c t) (some_have_use (is_misplaced d fact) d fact c ts) h in
        (node_type t base c u parts.0 k.0 b, all_types ts base c us parts.1 k.1 b)

    case_types : (cs : SourceCases) (base : ℕ) (c : Condition) (u : FactType) → cases_have_use (is_misplaced d fact) d fact c cs ≡ false → HaveCaseTypes (placed_types d fact) base cs u → (b : ℕ) → HaveCaseTypes (node_types (type_at d)) b (resolved_cases (names d fact) base cs) u
    case_types no_cases base c u h k b = tt
    case_types (a_case t o cs) base c u h k b =
        let first = or_neither (misplaced c t) (misplaced c o || cases_have_use (is_misplaced d fact) d fact c cs) h in
        let rest = or_neither (misplaced c o) (cases_have_use (is_misplaced d fact) d fact c cs) first.1 in
        (node_type t base c Boolean first.0 k.0 b, node_type o base c u rest.0 k.1 b, case_types cs base c u rest.1 k.2 b)
