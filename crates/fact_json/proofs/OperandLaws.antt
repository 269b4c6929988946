-- What stands behind a node's name: another number of operands than the node wants, and the operands by place.
use Rattle.std.proofs.Common.{◌≡◌, ◌≢◌, ℕ, suc, ◌<◌, List, [], ◌∷◌, length, drop, get_or, Option, Some, None, option_map, option_and_then, Result, Err, refl, sym, ap, subst, ◌∙◌, arith}
use Rattle.serde_json.specs.declared.value.Value.{Value}
use Rattle.serde_json.specs.View.{view as json, items_view}
use Rattle.serde_json.specs.Find.{as_str}
use Rattle.dict_source.specs.Tables.{LookupTable, table_named}
use Rattle.dict_source.specs.Tree.{Source, SourceCase, Use}
use Rattle.std.proofs.lemmas.Option.{same_Some}
use Rattle.fact_json.specs.Parsing.{picked_of, looked_of, no_operand, one_text, two_texts, only_tree, pair_tree, picked_tree, tree_of}
use Rattle.dict_source.specs.Parts.{Gives}
use Rattle.dict_source.specs.View.{use_of}
use Rattle.dict_source.specs.declared.read_fault.ReadFault.{ReadFault}
use Rattle.dict_source.specs.declared.read_fault.ReadFault.TheVariants.{Shape, NoMemory}

pub no_operand_else : {A : Type 0} (x : A) (vs : List Value) → 0 < length vs → length vs ≢ 1 → no_operand x (items_view (drop 1 vs)) ≡ None
no_operand_else x [] p h = absurd (omega arith)
no_operand_else x (v ∷ []) p h = absurd (h refl)
no_operand_else x (v ∷ w ∷ vs) p h = refl

pub one_text_else : (vs : List Value) → 0 < length vs → length vs ≢ 2 → one_text (items_view (drop 1 vs)) ≡ None
one_text_else (v ∷ w ∷ []) p h = absurd (h refl)
one_text_else [] p h = absurd (omega arith)
one_text_else vs p h = refl

pub two_texts_else : (vs : List Value) → 0 < length vs → length vs ≢ 3 → two_texts (items_view (drop 1 vs)) ≡ None
two_texts_else (v ∷ w ∷ x ∷ []) p h = absurd (h refl)
two_texts_else [] p h = absurd (omega arith)
two_texts_else vs p h = refl

pub two_texts_none : (vs : List Value) → length vs ≢ 2 → None ≡ two_texts (items_view vs)
two_texts_none (v ∷ w ∷ []) h = absurd (h refl)
two_texts_none vs h = refl

-- ---- parts

-- an exit with the fault of a part
pub part_err : {X Y Z W : Type 0} (view : X → Y) (shown : Z → W) (e f : ReadFault) (r : Result Z ReadFault) (part : Option Y) (whole : Option W)
    → Gives view (Err e) part → (part ≡ None → whole ≡ None) → r ≡ Err f → f ≡ e → Gives shown r whole
part_err view shown Shape f r part whole given none is same = rw (is, same) (none given)
part_err view shown NoMemory f r part whole given none is same = rw (is, same) tt

-- what answers for a part answers for the whole
pub part_gives : {X Y : Type 0} (view : X → Y) (r : Result X ReadFault) (part whole : Option Y) → whole ≡ part → Gives view r part → Gives view r whole
part_gives view r part whole same given = subst (Gives view r) (sym same) given

abbrev pub pair_of : Option Source → Option Source → Option SourceCase
pair_of first second = option_and_then (λ a. option_map (λ b. (a, b)) second) first

none_first : (first second : Option Source) → first ≡ None → pair_of first second ≡ None
none_first first second h = rw h refl

module _ (tables : List LookupTable) where
  pub only_tree_else : (vs : List Value) → 0 < length vs → length vs ≢ 2 → only_tree tables (items_view (drop 1 vs)) ≡ None
  only_tree_else (v ∷ w ∷ []) p h = absurd (h refl)
  only_tree_else [] p h = absurd (omega arith)
  only_tree_else vs p h = refl

  pub pair_tree_else : (vs : List Value) → 0 < length vs → length vs ≢ 3 → pair_tree tables (items_view (drop 1 vs)) ≡ None
  pair_tree_else (v ∷ w ∷ x ∷ []) p h = absurd (h refl)
  pair_tree_else [] p h = absurd (omega arith)
  pair_tree_else vs p h = refl

  pub picked_tree_else : (vs : List Value) → 0 < length vs → length vs ≢ 3 → picked_tree tables (items_view (drop 1 vs)) ≡ None
  picked_tree_else (v ∷ w ∷ x ∷ []) p h = absurd (h refl)
  picked_tree_else [] p h = absurd (omega arith)
  picked_tree_else vs p h = refl

  -- ---- the operands by place

  only_tree_is : (vs : List Value) (d : Value) → length vs ≡ 2 → only_tree tables (items_view (drop 1 vs)) ≡ tree_of tables (json (get_or vs 1 d))
  only_tree_is (v ∷ w ∷ []) d h = refl
  only_tree_is vs d h = absurd (omega arith)

  pair_tree_is : (vs : List Value) (d e : Value) → length vs ≡ 3 → pair_tree tables (items_view (drop 1 vs)) ≡ option_and_then (λ a. option_map (λ b. (a, b)) (tree_of tables (json (get_or vs 2 e)))) (tree_of tables (json (get_or vs 1 d)))
  pair_tree_is (v ∷ w ∷ x ∷ []) d e h = refl
  pair_tree_is vs d e h = absurd (omega arith)

  picked_tree_is : (vs : List Value) (d e : Value) → length vs ≡ 3 → picked_tree tables (items_view (drop 1 vs)) ≡ option_and_then (λ s. option_map (λ t. (s, t)) (tree_of tables (json (get_or vs 2 e)))) (as_str (json (get_or vs 1 d)))
  picked_tree_is (v ∷ w ∷ x ∷ []) d e h = refl
  picked_tree_is vs d e h = absurd (omega arith)

  pub only_tree_at : (vs : List Value) (v : Value) → length vs ≡ 2 → v ≡ get_or vs 1 v → only_tree tables (items_view (drop 1 vs)) ≡ tree_of tables (json v)
  only_tree_at vs v h is = only_tree_is vs v h ∙ ap (λ x. tree_of tables (json x)) (sym is)

  pub pair_tree_at : (vs : List Value) (v w : Value) → length vs ≡ 3 → v ≡ get_or vs 1 v → w ≡ get_or vs 2 w → pair_tree tables (items_view (drop 1 vs)) ≡ pair_of (tree_of tables (json v)) (tree_of tables (json w))
  pair_tree_at vs v w h first second = pair_tree_is vs v w h ∙ ap (λ x. pair_of (tree_of tables (json x)) (tree_of tables (json (get_or vs 2 w)))) (sym first) ∙ ap (λ x. pair_of (tree_of tables (json v)) (tree_of tables (json x))) (sym second)

  pub pair_tree_none : (vs : List Value) (v : Value) → length vs ≡ 3 → v ≡ get_or vs 1 v → tree_of tables (json v) ≡ None → pair_tree tables (items_view (drop 1 vs)) ≡ None
  pair_tree_none vs v h first none = pair_tree_is vs v v h ∙ ap (λ x. pair_of (tree_of tables (json x)) (tree_of tables (json (get_or vs 2 v)))) (sym first) ∙ none_first (tree_of tables (json v)) (tree_of tables (json (get_or vs 2 v))) none

  pub pair_tree_none_second : (vs : List Value) (v w : Value) (t : Source) → length vs ≡ 3 → v ≡ get_or vs 1 v → w ≡ get_or vs 2 w → tree_of tables (json v) ≡ Some t → tree_of tables (json w) ≡ None → pair_tree tables (items_view (drop 1 vs)) ≡ None
  pair_tree_none_second vs v w t h first second some none = pair_tree_at vs v w h first second ∙ rw (some, none) refl

  pub pair_tree_some : (vs : List Value) (v w : Value) (t u : Source) → length vs ≡ 3 → v ≡ get_or vs 1 v → w ≡ get_or vs 2 w → tree_of tables (json v) ≡ Some t → tree_of tables (json w) ≡ Some u → pair_tree tables (items_view (drop 1 vs)) ≡ Some (t, u)
  pair_tree_some vs v w t u h first second some more = pair_tree_at vs v w h first second ∙ rw (some, more) refl

  picked_tree_at : (vs : List Value) (v w : Value) → length vs ≡ 3 → v ≡ get_or vs 1 v → w ≡ get_or vs 2 w → picked_tree tables (items_view (drop 1 vs)) ≡ option_and_then (λ s. option_map (λ t. (s, t)) (tree_of tables (json w))) (as_str (json v))
  picked_tree_at vs v w h first second =
      picked_tree_is vs v w h
      ∙ ap (λ x. option_and_then (λ s. option_map (λ t. (s, t)) (tree_of tables (json (get_or vs 2 w)))) (as_str (json x))) (sym first)
      ∙ ap (λ x. option_and_then (λ s. option_map (λ t. (s, t)) (tree_of tables (json x))) (as_str (json v))) (sym second)

  -- ---- a use and a condition

  no_picked : (s : Option (List ℕ)) (t : Option Source) → t ≡ None → option_map picked_of (option_and_then (λ x. option_map (λ y. (x, y)) t) s) ≡ None
  no_picked None t h = refl
  no_picked (Some s) t h = rw h refl

  pub picked_none : (vs : List Value) (v w : Value) → length vs ≡ 3 → v ≡ get_or vs 1 v → w ≡ get_or vs 2 w → tree_of tables (json w) ≡ None → option_map picked_of (picked_tree tables (items_view (drop 1 vs))) ≡ None
  picked_none vs v w h first second none = ap (option_map picked_of) (picked_tree_at vs v w h first second) ∙ no_picked (as_str (json v)) (tree_of tables (json w)) none

  some_picked : (text : List ℕ) (t : Source) (s : Option (List ℕ)) (o : Option Source) (u : Use) → Some text ≡ s → o ≡ Some t → Some (use_of text) ≡ Some u → option_map picked_of (option_and_then (λ x. option_map (λ y. (x, y)) o) s) ≡ Some (u, t)
  some_picked text t s o u is found used = rw (← is, found, same_Some (use_of text) u used) refl

  pub picked_some : (vs : List Value) (v w : Value) (text : List ℕ) (t : Source) (u : Use) → length vs ≡ 3 → v ≡ get_or vs 1 v → w ≡ get_or vs 2 w
      → Some text ≡ as_str (json v) → tree_of tables (json w) ≡ Some t → Some (use_of text) ≡ Some u → option_map picked_of (picked_tree tables (items_view (drop 1 vs))) ≡ Some (u, t)
  picked_some vs v w text t u h first second is found used = ap (option_map picked_of) (picked_tree_at vs v w h first second) ∙ some_picked text t (as_str (json v)) (tree_of tables (json w)) u is found used

  -- ---- a table and an operand

  no_looked : (s : Option (List ℕ)) (t : Option Source) → t ≡ None → option_and_then (looked_of tables) (option_and_then (λ x. option_map (λ y. (x, y)) t) s) ≡ None
  no_looked None t h = refl
  no_looked (Some s) t h = rw h refl

  pub looked_none : (vs : List Value) (v w : Value) → length vs ≡ 3 → v ≡ get_or vs 1 v → w ≡ get_or vs 2 w → tree_of tables (json w) ≡ None → option_and_then (looked_of tables) (picked_tree tables (items_view (drop 1 vs))) ≡ None
  looked_none vs v w h first second none = ap (option_and_then (looked_of tables)) (picked_tree_at vs v w h first second) ∙ no_looked (as_str (json v)) (tree_of tables (json w)) none

  looked_up : (text : List ℕ) (t : Source) (s : Option (List ℕ)) (o : Option Source) (found : Option LookupTable) → Some text ≡ s → o ≡ Some t → table_named text tables ≡ found
      → option_and_then (looked_of tables) (option_and_then (λ x. option_map (λ y. (x, y)) o) s) ≡ option_map (λ u. (u, t)) found
  looked_up text t s o found is read named = rw (← is, read, named) refl

  pub looked_found : (vs : List Value) (v w : Value) (text : List ℕ) (t : Source) (found : Option LookupTable) → length vs ≡ 3 → v ≡ get_or vs 1 v → w ≡ get_or vs 2 w
      → Some text ≡ as_str (json v) → tree_of tables (json w) ≡ Some t → table_named text tables ≡ found → option_and_then (looked_of tables) (picked_tree tables (items_view (drop 1 vs))) ≡ option_map (λ u. (u, t)) found
  looked_found vs v w text t found h first second is read named =
      ap (option_and_then (looked_of tables)) (picked_tree_at vs v w h first second) ∙ looked_up text t (as_str (json v)) (tree_of tables (json w)) found is read named

  -- ---- a list without a name before it

  pub no_pair : (vs : List Value) → length vs ≢ 2 → pair_tree tables (items_view vs) ≡ None
  no_pair (v ∷ w ∷ []) h = absurd (h refl)
  no_pair vs h = refl

  pub pair_none : (vs : List Value) (v : Value) → length vs ≡ 2 → v ≡ get_or vs 0 v → tree_of tables (json v) ≡ None → pair_tree tables (items_view vs) ≡ None
  pair_none vs v h first none = pair_tree_none (v ∷ vs) v (ap suc h) first none

  pub pair_none_second : (vs : List Value) (v w : Value) (t : Source) → length vs ≡ 2 → v ≡ get_or vs 0 v → w ≡ get_or vs 1 w → tree_of tables (json v) ≡ Some t → tree_of tables (json w) ≡ None → pair_tree tables (items_view vs) ≡ None
  pair_none_second vs v w t h first second some none = pair_tree_none_second (v ∷ vs) v w t (ap suc h) first second some none

  pub pair_some : (vs : List Value) (v w : Value) (t u : Source) → length vs ≡ 2 → v ≡ get_or vs 0 v → w ≡ get_or vs 1 w → tree_of tables (json v) ≡ Some t → tree_of tables (json w) ≡ Some u → pair_tree tables (items_view vs) ≡ Some (t, u)
  pair_some vs v w t u h first second some more = pair_tree_some (v ∷ vs) v w t u (ap suc h) first second some more
