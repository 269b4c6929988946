-- In a fact that keeps the rule of places, each expression has its type also where a read has one only if its path suits it.
use Rattle.std.proofs.Common.{◌≡◌, ℕ, Bool, true, false, not, ◌&&◌, ◌||◌, if◌then◌else◌, List, [], ◌∷◌, Option, Some, None, refl, ◌∙◌}
use Rattle.std.proofs.lemmas.Bool.{not-false}
use Rattle.fact_paths.specs.declared.use_path.UsePath.{UsePath}
use Rattle.fact_paths.specs.declared.use_path.UsePath.TheVariants.{Global, Each}
use Rattle.fact_values.specs.declared.fact_type.FactType.{FactType}
use Rattle.fact_values.specs.declared.fact_type.FactType.TheVariants.{Boolean}
use Rattle.dict_source.specs.declared.operators.ReadOp.{ReadOp}
use Rattle.dict_source.specs.declared.operators.ReadOp.TheVariants.{Dependency, IsComplete, CollectionSize, CollectionSum, Count}
use Rattle.dict_source.specs.Tree.{Literal, Reading, Use, Source, Sources, SourceCases, literal, read, switch, many, one, two, pick, no_trees, tree, no_cases, a_case}
use Rattle.dict_source.specs.Dictionary.{Dictionary as Tree}
use Rattle.dict_source.specs.Mentions.{condition_base}
use Rattle.dict_source.specs.Tables.{is_fit}
use Rattle.dict_source.specs.Typing.{Types, HasType, HaveTypes, HaveCaseTypes}
use Rattle.dict_rules.specs.declared.use_op.UseOp.TheVariants.{Read, Pick}
use Rattle.dict_rules.specs.BadPath.{is_other_form}
use Rattle.node_types.specs.Constants.{literal_type}
use Rattle.node_types.specs.FactTyping.{known, path_type, types_in}
use Rattle.node_types.specs.ListSizes.{list_sizes}
use Rattle.dict_rules.specs.Uses.{Condition, cases_have_use, condition_under, goes_through_members, has_use, some_have_use}
use Rattle.dict_rules.specs.WrongPlace.{is_displaced, is_in_place, is_misplaced}
use Rattle.common_lemmas.proofs.Bools.{or_neither}
use Rattle.std.specs.Prelude.{is_some}

-- ---- paths that suit what reads them

-- `/N/*/M`
abbrev pub lists_members : UsePath → Bool
lists_members (Each n m) = true
lists_members _ = false

abbrev pub suits : ReadOp → UsePath → Bool
suits CollectionSize path = not (is_other_form path)
suits CollectionSum path = lists_members path
suits Count path = lists_members path
suits _ path = true

-- the type, where the path suits
abbrev pub suited : ReadOp → Option UsePath → Option FactType → Option FactType
suited op None t = t
suited op (Some path) t = if suits op path then t else None

-- the types of what a fact's expressions are made of, but for reads by paths that don't suit
abbrev pub placed_types : Tree → ℕ → Types Literal Reading Use
placed_types d fact = record {
  constant = literal_type d.enums;
  reads = λ base r. suited r.0 r.1.path (path_type d fact base r.0 r.1.path);
  source = λ base u. known (condition_base d fact base u.path);
  fits = is_fit (list_sizes d.enums);
}

-- ---- a path in its place suits

whole_suits : (d : Tree) (n : ℕ) (c : Condition) (path : UsePath) → is_in_place d n (Read CollectionSize) c path ≡ true → not (is_other_form path) ≡ true
whole_suits d n c (Global l) h = refl
whole_suits d n c _ h = absurd cc

sum_suits : (d : Tree) (n : ℕ) (c : Condition) (path : UsePath) → is_in_place d n (Read CollectionSum) c path ≡ true → lists_members path ≡ true
sum_suits d n c (Each l m) h = refl
sum_suits d n c _ h = absurd cc

count_suits : (d : Tree) (n : ℕ) (c : Condition) (path : UsePath) → is_in_place d n (Read Count) c path ≡ true → lists_members path ≡ true
count_suits d n c (Each l m) h = refl
count_suits d n c _ h = absurd cc

in_place_suits : (d : Tree) (n : ℕ) (op : ReadOp) (c : Condition) (path : UsePath) → is_in_place d n (Read op) c path ≡ true → suits op path ≡ true
in_place_suits d n Dependency c path h = refl
in_place_suits d n IsComplete c path h = refl
in_place_suits d n CollectionSize c path h = whole_suits d n c path h
in_place_suits d n CollectionSum c path h = sum_suits d n c path h
in_place_suits d n Count c path h = count_suits d n c path h

chosen : {X : Type 0} (b : Bool) (x : Option X) → b ≡ true → (if b then x else None) ≡ x
chosen true x e = refl
chosen false x e = absurd cc

suited_by : (d : Tree) (n : ℕ) (op : ReadOp) (c : Condition) (path : Option UsePath) (t : Option FactType) → is_displaced d n (Read op) c path ≡ false → suited op path t ≡ t
suited_by d n op c None t h = refl
suited_by d n op c (Some path) t h = chosen (suits op path) t (in_place_suits d n op c path (not-false (is_in_place d n (Read op) c path) h))

suited_stays : (d : Tree) (n : ℕ) (op : ReadOp) (c : Condition) (u : Use) (t : Option FactType) → is_misplaced d n (Read op) c u ≡ false → suited op u.path t ≡ t
suited_stays d n op c u t h =
    suited_by d n op c u.path t (or_neither (goes_through_members (Read op) && is_some c) (is_displaced d n (Read op) c u.path) h).1

-- ---- expressions

mutual
  pub placed_type : (d : Tree) (n : ℕ) (t : Source) (b : ℕ) (c : Condition) (u : FactType) → has_use (is_misplaced d n) d n c t ≡ false → HasType (types_in d n) b t u → HasType (placed_types d n) b t u
  placed_type d n (literal l) b c u h k = k
  placed_type d n (read r) b c u h k = suited_stays d n r.0 c r.1 (path_type d n b r.0 r.1.path) h ∙ k
  placed_type d n (switch cs) b c u h k = (k.0, placed_case_types d n cs b c u h k.1)
  placed_type d n (many op ts) b c u h k = (k.0, placed_all d n ts b c k.0 h k.1, k.2)
  placed_type d n (one op t) b c u h k = (k.0, placed_type d n t b c k.0 h k.1, k.2)
  placed_type d n (two op x y) b c u h k =
      let parts = or_neither (has_use (is_misplaced d n) d n c x) (has_use (is_misplaced d n) d n c y) h in
      (k.0, k.1, placed_type d n x b c k.0 parts.0 k.2, placed_type d n y b c k.1 parts.1 k.3, k.4)
  placed_type d n (pick op p t) b c u h k =
      let parts = or_neither (is_misplaced d n (Pick op) c p) (has_use (is_misplaced d n) d n (condition_under d n c p) t) h in
      (k.0, k.1, placed_type d n t k.0 (condition_under d n c p) Boolean parts.1 k.2, k.3)

  placed_all : (d : Tree) (n : ℕ) (ts : Sources) (b : ℕ) (c : Condition) (us : List FactType) → some_have_use (is_misplaced d n) d n c ts ≡ false → HaveTypes (types_in d n) b ts us → HaveTypes (placed_types d n) b ts us
  placed_all d n no_trees b c [] h k = k
  placed_all d n no_trees b c (u ∷ us) h k = k
  placed_all d n (tree t ts) b c [] h k = k
  placed_all d n (tree t ts) b c (u ∷ us) h k =
      let parts = or_neither (has_use (is_misplaced d n) d n c t) (some_have_use (is_misplaced d n) d n c ts) h in
      (placed_type d n t b c u parts.0 k.0, placed_all d n ts b c us parts.1 k.1)

  placed_case_types : (d : Tree) (n : ℕ) (cs : SourceCases) (b : ℕ) (c : Condition) (u : FactType) → cases_have_use (is_misplaced d n) d n c cs ≡ false → HaveCaseTypes (types_in d n) b cs u → HaveCaseTypes (placed_types d n) b cs u
  placed_case_types d n no_cases b c u h k = k
  placed_case_types d n (a_case t o cs) b c u h k =
      let first = or_neither (has_use (is_misplaced d n) d n c t) (has_use (is_misplaced d n) d n c o || cases_have_use (is_misplaced d n) d n c cs) h in
      let rest = or_neither (has_use (is_misplaced d n) d n c o) (cases_have_use (is_misplaced d n) d n c cs) first.1 in
      (placed_type d n t b c Boolean first.0 k.0, placed_type d n o b c u rest.0 k.1, placed_case_types d n cs b c u rest.1 k.2)
