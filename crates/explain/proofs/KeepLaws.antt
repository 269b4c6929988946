-- While the missing answers of a slot are missing, its result stays: by induction on its rank.
use Rattle.std.proofs.Common.{◌≡◌, ℕ, zero, suc, ◌<◌, Bool, true, ◌&&◌, if◌then◌else◌, IsTrue, is_none, is_some, List, [], ◌∷◌, ◌++◌, flat_map, map, Option, Some, None, unwrap_or, refl, sym, ap, subst, ◌∙◌, arith}
use Rattle.std.specs.Prelude.{option_map}
use Rattle.std.specs.FinMap as map_of
use Rattle.std.specs.List.{list_all}
use Rattle.fact_paths.specs.declared.use_path.UsePath.{UsePath}
use Rattle.fact_paths.specs.declared.use_path.UsePath.TheVariants.{Global, Sibling, Inner, Each, Through, SiblingThrough}
use Rattle.fact_values.specs.declared.slot.Slot.{Slot}
use Rattle.fact_values.specs.declared.fact_type.FactType.{FactType}
use Rattle.fact_values.specs.declared.fact_type.FactType.TheVariants as types
use Rattle.fact_values.specs.declared.value.Value.{Value}
use Rattle.fact_values.specs.declared.value.Value.TheVariants.{Item}
use Rattle.dict_source.specs.declared.operators.ReadOp.{ReadOp}
use Rattle.dict_source.specs.declared.operators.ReadOp.TheVariants as read_op
use Rattle.dict_source.specs.declared.targets.Targets.{Targets}
use Rattle.dict_source.specs.Dictionary.{Dictionary as Tree}
use Rattle.dict_source.specs.Facts.{Fact, Stated, scalar, enum_of, writable_list, list_of, item_of}
use Rattle.dict_source.specs.Finding.{fact_at}
use Rattle.dict_source.specs.Targets.{targets}
use Rattle.dict_source.specs.Tree.{Source}
use Rattle.three_state.specs.declared.res.Res.{Res}
use Rattle.three_state.specs.declared.res.Res.TheVariants.{Complete, Placeholder, Incomplete, Fault}
use Rattle.three_state.specs.Equality.{res_same}
use Rattle.three_state.specs.Results.{count_of, down, is_incomplete, members_of}
use Rattle.three_state.proofs.EqualityLaws.{res_same-Decides}
use Rattle.evaluation.specs.Agreement.{IsIn}
use Rattle.evaluation.specs.Mentioned.{AllOf}
use Rattle.evaluation.specs.Reads.{collection_size, complete_test, sum_over, through_item}
use Rattle.evaluation.specs.SlotsRead.{AnswerAlike, item_read, member_read}
use Rattle.evaluation.proofs.Coincide.{is_head as is_first, map_same}
use Rattle.evaluation.proofs.ReadsLaws.{all_at_member, reads-decide}
use Rattle.answers.specs.Answered.{Answered, value_of}
use Rattle.answers.specs.declared.edit.Side.TheVariants.{Override}
use Rattle.common_lemmas.proofs.Bools.{and_intro, both}
use Rattle.common_lemmas.proofs.Lists.{all_parts}
use Rattle.dict_meaning.specs.Accepted.{Accepted, IsAccepted}
use Rattle.dict_meaning.specs.Extension.{Extends, IsExtension, both_same}
use Rattle.dict_meaning.specs.Fits.{is_writable}
use Rattle.dict_meaning.specs.Plain.{answer_result, at_fact, body, conditional_body, expression, given_value, main_result, open_list, or_override, or_placeholder, plain, rank, slot_result}
use Rattle.dict_meaning.specs.Dependencies.{EvalPosition, collection, dependency, field_type, outermost, read_by, read_result, source_env, source_result}
use Rattle.evaluation.specs.Results.{Results, result_at, slot}
use Rattle.dict_meaning.specs.Slots.{standing, stands}
use Rattle.dict_meaning.proofs.ExtensionLaws.{equal_same, same_option}
use Rattle.dict_meaning.proofs.PlainLaws.{plain_is_recursive}
use Rattle.dict_meaning.proofs.FinalLaws.{standing_stays}
use Rattle.dict_meaning.proofs.SlotLaws.{fact_of_standing, listed_stand}
use Rattle.dict_meaning.proofs.UntouchedLaws.{step_is}
use Rattle.explain.specs.Missing.{MissingKeep, is_missing, is_unanswered, lacks_answer, missing}
use Rattle.source_eval.specs.NodeReads.{dependency_reads, field_reads, node_reads, reads_by, reads_of_op, source_reads, target_slot}
use Rattle.explain.specs.Reads.{expression_reads, fact_reads, is_in, is_read, main_reads, placeholder_reads, slot_reads, standing_reads}
use Rattle.explain.proofs.PlacedLaws.{Follows, reads_follow}
use Rattle.explain.proofs.ReachLaws.{falls, is_standing, reads_by_way, reads_itself}
use Rattle.explain.proofs.SlotLists.{all_at, all_where, in_filter, test_all, test_at}

-- ---- two maps that give the slots that are read alike

-- the maps give the slot alike
abbrev pub alike : Results → Results → Slot → Bool
alike results results' t = both_same res_same (results t) (results' t)

same_there : (results results' : Results) (t : Slot) → IsTrue (alike results results' t) → results t ≡ results' t
same_there results results' t h = same_option res_same (λ r s. (res_same-Decides r s).0) (results t) (results' t) h

there_same : (results results' : Results) (t : Slot) → results t ≡ results' t → IsTrue (alike results results' t)
there_same results results' t e = rw e (equal_same res_same res_same-Decides (results' t))

module _ (results results' : Results) where
  abbrev test : Slot → Bool
  test = alike results results'

  target_same : (o : Option ℕ) (m : ℕ) → IsTrue (list_all test (target_slot o m)) → result_at results o m ≡ result_at results' o m
  target_same None m h = refl
  target_same (Some n) m h = ap (λ r. unwrap_or r Incomplete) (same_there results results' (slot n m) (both (test (slot n m)) true h).0)

  through_same : (item : Res) (field field' : ℕ → Res) → ((m : ℕ) → IsIn (member_read item) m → field m ≡ field' m) → through_item item field ≡ through_item item field'
  through_same (Complete (Item m)) field field' h = h m (is_first m [])
  through_same (Placeholder (Item m)) field field' h = ap down (h m (is_first m []))
  through_same _ field field' h = refl

  item_same : (first second : Option ℕ) (m : ℕ) → IsTrue (list_all test (item_read (result_at results first m) (target_slot first m) (target_slot second)))
      → through_item (result_at results first m) (result_at results second) ≡ through_item (result_at results' first m) (result_at results' second)
  item_same first second m h =
      let item = result_at results first m in
      let parts = all_parts test (target_slot first m) (flat_map (target_slot second) (member_read item)) h in
      through_same item (result_at results second) (result_at results' second) (λ n i. target_same second n (all_at_member test (target_slot second) (member_read item) parts.1 n i))
      ∙ ap (λ r. through_item r (result_at results' second)) (target_same first m parts.0)

  dependency_same : (t : Targets) (at : EvalPosition) (path : UsePath) → IsTrue (list_all test (dependency_reads results t at path)) → dependency results t at path ≡ dependency results' t at path
  dependency_same t at (Global n) h = target_same t.first 0 h
  dependency_same t at (Sibling n) h = target_same t.first at.own h
  dependency_same t at (Inner n) h = target_same t.first at.inner h
  dependency_same t at (Each n m) h = refl
  dependency_same t at (Through n m) h = item_same t.first t.second 0 h
  dependency_same t at (SiblingThrough n m) h = item_same t.first t.second at.own h

  fields_same : (t : Targets) → IsTrue (list_all test (field_reads results t)) → (collection results t ≡ collection results' t) × (map (result_at results t.second) (members_of (collection results t)) ≡ map (result_at results' t.second) (members_of (collection results t)))
  fields_same t h =
      let ms = members_of (collection results t) in
      let parts = all_parts test (target_slot t.first 0) (flat_map (target_slot t.second) ms) h in (
        target_same t.first 0 parts.0,
        map_same (result_at results t.second) (result_at results' t.second) ms (λ n i. target_same t.second n (all_at_member test (target_slot t.second) ms parts.1 n i)),
      )

  sum_same : (t : FactType) (source source' : Res) (field field' : ℕ → Res) → source ≡ source' → map field (members_of source) ≡ map field' (members_of source) → sum_over t source field ≡ sum_over t source' field'
  sum_same types.Dollar source source' field field' e h = rw (h, e) refl
  sum_same _ source source' field field' e h = rw (h, e) refl

  count_same : (source source' : Res) (field field' : ℕ → Res) → source ≡ source' → map field (members_of source) ≡ map field' (members_of source) → count_of source field ≡ count_of source' field'
  count_same source source' field field' e h = rw (h, e) refl

  op_same : (op : ReadOp) (d : Tree) (t : Targets) (at : EvalPosition) (path : UsePath) → IsTrue (list_all test (reads_of_op op results t at path)) → read_by op d results t at path ≡ read_by op d results' t at path
  op_same read_op.Dependency d t at path h = dependency_same t at path h
  op_same read_op.IsComplete d t at path h = ap complete_test (dependency_same t at path h)
  op_same read_op.CollectionSize d t at path h = ap collection_size (target_same t.first 0 h)
  op_same read_op.CollectionSum d t at path h =
      let same = fields_same t h in sum_same (field_type d t) (collection results t) (collection results' t) (result_at results t.second) (result_at results' t.second) same.0 same.1
  op_same read_op.Count d t at path h =
      let same = fields_same t h in count_same (collection results t) (collection results' t) (result_at results t.second) (result_at results' t.second) same.0 same.1

  node_same : (d : Tree) (fact : ℕ) (at : EvalPosition) (op : ReadOp) (path : Option UsePath) → IsTrue (list_all test (node_reads d results fact at op path)) → read_result d results fact at op path ≡ read_result d results' fact at op path
  node_same d fact at op None h = refl
  node_same d fact at op (Some path) h = op_same op d (targets d fact at.base path) at path h

  source_same : (d : Tree) (fact : ℕ) (at : EvalPosition) (path : Option UsePath) → IsTrue (list_all test (source_reads d fact at path)) → source_result d results fact at path ≡ source_result d results' fact at path
  source_same d fact at None h = refl
  source_same d fact at (Some path) h = target_same (targets d fact at.base path).first 0 h

  answer_alike : (d : Tree) (fact : ℕ) → AnswerAlike (reads_by d results fact) test (source_env d results fact) (source_env d results' fact)
  answer_alike d fact = record {
    constant = λ c. refl;
    enter = λ at p m. refl;
    reads = λ at r h. node_same d fact at r.0 r.1.path h;
    source = λ at p h. source_same d fact at p.path h;
  }

  -- an expression of which all that is read is given alike
  expression_same : (d : Tree) (s : Slot) (t : Source) → AllOf (λ u. results u ≡ results' u) (expression_reads d results s t) → expression d results s t ≡ expression d results' s t
  expression_same d s t h =
      reads-decide (reads_by d results s.fact) test (source_env d results s.fact) (source_env d results' s.fact) (answer_alike d s.fact) t (outermost s.member)
      (test_all test (expression_reads d results s t) (all_where (λ u. IsTrue (test u)) (expression_reads d results s t) (λ u i. there_same results results' u (all_at (λ u. results u ≡ results' u) (expression_reads d results s t) h u i))))

-- ---- a slot

left_of : (P : Slot → Type 0) (xs ys : List Slot) → AllOf P (xs ++ ys) → AllOf P xs
left_of P [] ys h = tt
left_of P (x ∷ xs) ys h = (h.0, left_of P xs ys h.1)

right_of : (P : Slot → Type 0) (xs ys : List Slot) → AllOf P (xs ++ ys) → AllOf P ys
right_of P [] ys h = h
right_of P (x ∷ xs) ys h = right_of P xs ys h.1

-- what was given to it, where what isn't given isn't given later
pub record SameGiven (a b : Answered) (s : Slot) (f : Fact) : Type 0 where
  pub value : IsTrue (is_writable f) → given_value f.stated a s ≡ given_value f.stated b s
  pub override : value_of Override b s ≡ value_of Override a s

no_main : (f : Fact) (main : Option Source) → option_map (conditional_body f.conditional) main ≡ None → IsTrue (is_none main)
no_main f None e = refl
no_main f (Some t) e = absurd (cc)

module _ (d : Tree) (a b : Answered) (results results' : Results) (s : Slot) where
  abbrev SameAt : Slot → Type 0
  SameAt u = results u ≡ results' u

  overridden : (o : Option Value) (t : Source) → AllOf SameAt (if is_some o then [] else expression_reads d results s t) → or_override o (expression d results s t) ≡ or_override o (expression d results' s t)
  overridden None t h = expression_same results results' d s t h
  overridden (Some v) t h = refl

  main_same : (f : Fact) (t : Option Source) → body f ≡ t → SameGiven a b s f → AllOf SameAt (main_reads d a results s t) → main_result d a results s f.stated t ≡ main_result d b results' s f.stated t
  main_same f None e g h = ap answer_result (g.value (no_main f f.main e))
  main_same f (Some t) e g h = overridden (value_of Override a s) t h ∙ ap (λ v. or_override v (expression d results' s t)) (sym g.override)

  placeholder_same : (t : Option Source) (r : Res) → AllOf SameAt (placeholder_reads d results s t (is_incomplete r)) → or_placeholder d results s t r ≡ or_placeholder d results' s t r
  placeholder_same None r h = refl
  placeholder_same (Some t) Incomplete h = ap down (expression_same results results' d s t h)
  placeholder_same (Some t) (Complete v) h = refl
  placeholder_same (Some t) (Placeholder v) h = refl
  placeholder_same (Some t) (Fault fault) h = refl

  pub slot_same : (f : Fact) → SameGiven a b s f → AllOf SameAt (fact_reads d a results s f) → slot_result d a results s f ≡ slot_result d b results' s f
  slot_same f g h =
      let main = main_result d a results s f.stated (body f) in
      let first = main_reads d a results s (body f) in
      let rest = placeholder_reads d results s f.placeholder (is_incomplete main) in
      placeholder_same f.placeholder main (right_of SameAt first rest h)
      ∙ ap (or_placeholder d results' s f.placeholder) (main_same f (body f) refl g (left_of SameAt first rest h))

-- ---- what was given is given later, and what is missing isn't

list_later : (a b : Answered) → Extends a b → (s : Slot) (v : Value) (o : Option (List ℕ)) → map_of.get a.lists s.fact ≡ o → open_list o ≡ Some v → open_list (map_of.get b.lists s.fact) ≡ Some v
list_later a b h s v None k e = absurd (cc)
list_later a b h s v (Some ms) k e = ap open_list (h.lists s.fact ms k) ∙ e

given_later : (a b : Answered) → Extends a b → (s : Slot) (stated : Stated) (v : Value) → given_value stated a s ≡ Some v → given_value stated b s ≡ Some v
given_later a b h s writable_list v e = list_later a b h s v (map_of.get a.lists s.fact) refl e
given_later a b h s (scalar t) v e = h.values s v e
given_later a b h s (enum_of n) v e = h.values s v e
given_later a b h s (list_of u) v e = h.values s v e
given_later a b h s (item_of u) v e = h.values s v e

given_same : (a b : Answered) → Extends a b → (s : Slot) (f : Fact) → (IsTrue (is_writable f && is_none (given_value f.stated a s)) → IsTrue (is_writable f && is_none (given_value f.stated b s)))
    → IsTrue (is_writable f) → given_value f.stated a s ≡ given_value f.stated b s
given_same a b h s f out writable = by (given_value f.stated a s) refl
  where
    none_of : (o : Option Value) → IsTrue (is_none o) → o ≡ None
    none_of None k = refl
    none_of (Some v) k = absurd (cc)

    by : (o : Option Value) → given_value f.stated a s ≡ o → given_value f.stated a s ≡ given_value f.stated b s
    by None e =
        let later = out (and_intro (is_writable f) (is_none (given_value f.stated a s)) writable (ap is_none e)) in
        e ∙ sym (none_of (given_value f.stated b s) (both (is_writable f) (is_none (given_value f.stated b s)) later).1)
    by (Some v) e = e ∙ sym (given_later a b h s f.stated v e)

-- ---- by rank

module _ (names : List (List ℕ)) (d : Accepted) (accepted : IsAccepted names d) (a b : Answered) (extension : IsExtension d.tree a b) where
  -- of what the slot reads, what is unanswered stays so
  abbrev StaysOut : Slot → Type 0
  StaysOut s = (t : Slot) → IsTrue (is_read d a s t) → IsTrue (stands d.tree a t) → IsTrue (is_unanswered d.tree a t) → IsTrue (is_unanswered d.tree b t)

  abbrev Same : Slot → Type 0
  Same u = plain d a u ≡ plain d b u

  given : (s : Slot) (f : Fact) → fact_at d.tree.facts s.fact ≡ Some f → IsTrue (stands d.tree a s) → StaysOut s → SameGiven a b s f
  given s f e there out =
      let lacks = λ (c : Answered). ap (λ (o : Option Fact). lacks_answer c s o) e in
      record {
        value = given_same a b extension.extends s f (λ h. sym (lacks b) ∙ out s (reads_itself names d accepted a s) there (lacks a ∙ h));
        override = extension.extends.overrides s;
      }

  -- where each slot that is read keeps its result
  keeps_where : (s : Slot) → IsTrue (stands d.tree a s) → StaysOut s → ((u : Slot) → IsTrue (is_in u (standing_reads d a s)) → IsTrue (stands d.tree a u) → Same u) → plain d a s ≡ plain d b s
  keeps_where s there out rest =
      let f = fact_of_standing d.tree a s there in
      let after = standing_stays d.tree a b extension.extends s there in
      let follow = reads_follow names d accepted a b extension.before extension.after s f.2 in
      let all_same : AllOf Same (slot_reads d a s) = all_where Same (slot_reads d a s) (λ u i. all_at (Follows d a b) (slot_reads d a s) follow u i (λ k. rest u (is_standing d a s u i k) k)) in
      plain_is_recursive names d accepted a s
      ∙ step_is d a s f.0 f.1 there
      ∙ ap (λ (r : Res). Some r)
      (slot_same d.tree a b (plain d a) (plain d b) s f.0 (given s f.0 f.1 there out)
      (subst (λ (o : Option Fact). AllOf Same (at_fact o [] (fact_reads d.tree a (plain d a) s))) f.1 all_same))
      ∙ sym (step_is d b s f.0 f.1 after)
      ∙ sym (plain_is_recursive names d accepted b s)

  keeps_below : (n : ℕ) (s : Slot) → rank d s.fact < n → IsTrue (stands d.tree a s) → StaysOut s → plain d a s ≡ plain d b s
  keeps_below zero s low there out = absurd (omega arith)
  keeps_below (suc n) s low there out =
      keeps_where s there out
      (λ u i k. keeps_below n u (let less = falls names d accepted a s u i in omega arith) k (λ t h stands_there m. out t (reads_by_way names d accepted a s u t i h) stands_there m))

-- what is missing is what is read and unanswered
pub missing_keep : MissingKeep
missing_keep names d accepted a s there b extension still =
    sym (keeps_below names d accepted a b extension (suc (rank d s.fact)) s (omega arith) there
    (λ t h k m. test_at (is_unanswered d.tree b) (missing d a s) still t
    (in_filter (is_missing d a s) t (standing d.tree a) ∙ and_intro (is_in t (standing d.tree a)) (is_missing d a s t) (listed_stand d.tree a t ∙ k) (and_intro (is_read d a s t) (is_unanswered d.tree a t) h m))))
