-- Where two maps of results agree on what an expression of a fact reads, it has one result, one weight and one number of visits over both.
use Rattle.std.proofs.Common.{◌≡◌, ℕ, List, [], ◌∷◌, map, Option, Some, None, refl, ap, subst, sym, ◌∙◌}
use Rattle.fact_paths.specs.declared.use_path.UsePath.{UsePath}
use Rattle.fact_paths.specs.declared.use_path.UsePath.TheVariants.{Global, Sibling, Inner, Each, Through, SiblingThrough}
use Rattle.fact_values.specs.declared.fact_type.FactType.{FactType}
use Rattle.fact_values.specs.declared.fact_type.FactType.TheVariants as types
use Rattle.fact_values.specs.declared.slot.Slot.{Slot}
use Rattle.fact_values.specs.declared.value.Value.{Value}
use Rattle.fact_values.specs.declared.value.Value.TheVariants.{Members, Item}
use Rattle.dict_source.specs.declared.mentions.Mention.{Mention}
use Rattle.dict_source.specs.declared.operators.ReadOp.{ReadOp}
use Rattle.dict_source.specs.declared.operators.ReadOp.TheVariants as read_op
use Rattle.dict_source.specs.declared.targets.Targets.{Targets}
use Rattle.dict_source.specs.Tree.{Source}
use Rattle.dict_source.specs.Facts.{Fact, Stated}
use Rattle.dict_source.specs.Dictionary.{Dictionary as Tree}
use Rattle.dict_source.specs.Mentions.{condition_base, use_mentions}
use Rattle.dict_source.specs.Targets.{targets}
use Rattle.three_state.specs.declared.res.Res.{Res}
use Rattle.three_state.specs.declared.res.Res.TheVariants.{Complete, Placeholder, Incomplete, Fault}
use Rattle.three_state.specs.Results.{count_of, down, members_of}
use Rattle.evaluation.specs.Agreement.{IsIn}
use Rattle.evaluation.specs.ByBases.{AgreeIn}
use Rattle.evaluation.specs.Mentioned.{AllOf}
use Rattle.evaluation.specs.Over.{weight}
use Rattle.evaluation.specs.Visits.{visits}
use Rattle.evaluation.specs.Reads.{collection_size, complete_test, sum_over, through_item}
use Rattle.evaluation.proofs.Coincide.{is_head, map_same}
use Rattle.evaluation.proofs.Mentions.{coincide_in, weigh_same_in}
use Rattle.evaluation.proofs.VisitLaws.{visit-same-in}
use Rattle.answers.specs.Answered.{Answered, value_of}
use Rattle.answers.specs.declared.edit.Side.TheVariants.{Override}
use Rattle.dict_meaning.specs.Plain.{answer_result, body, expression, given_value, main_result, or_override, or_placeholder, slot_result}
use Rattle.dict_meaning.specs.Dependencies.{EvalPosition, collection, dependency, entered, field_type, outermost, read_by, read_result, source_env, source_result}
use Rattle.evaluation.specs.Results.{Results, result_at}
use Rattle.dict_meaning.proofs.FactMentions.{EachUse}
use Rattle.dict_meaning.proofs.MentionedLaws.{ReadIs, SourceIs, base_under}

-- ---- the members that a result names

abbrev pub names_in : Value → List ℕ
names_in (Members ms) = ms
names_in (Item m) = m ∷ []
names_in _ = []

abbrev pub names : Res → List ℕ
names (Complete v) = names_in v
names (Placeholder v) = names_in v
names Incomplete = []
names (Fault fault) = []

pub listed_in : (r : Res) (m : ℕ) → IsIn (members_of r) m → IsIn (names r) m
listed_in (Complete (Members ms)) m h = h
listed_in (Placeholder (Members ms)) m h = h
listed_in _ m h = absurd (cc)

-- ---- one use

-- the member at which a Dependency reads its first target
abbrev pub first_member : EvalPosition → UsePath → ℕ
first_member at (Global n) = 0
first_member at (Sibling n) = at.own
first_member at (Inner n) = at.inner
first_member at (Each n m) = 0
first_member at (Through n m) = 0
first_member at (SiblingThrough n m) = at.own

abbrev pub IsSameAt : Results → Results → Option ℕ → ℕ → Type 0
IsSameAt results results' target m = result_at results target m ≡ result_at results' target m

-- the maps agree on what a use may read of its targets
pub record AgreeOn (results results' : Results) (t : Targets) (at : EvalPosition) (path : UsePath) : Type 0 where
  pub once : IsSameAt results results' t.first 0
  pub first : IsSameAt results results' t.first (first_member at path)
  pub second : (k : ℕ) → IsSameAt results results' t.first k → (m : ℕ) → IsIn (names (result_at results t.first k)) m → IsSameAt results results' t.second m

through_same : (item item' : Res) (field field' : ℕ → Res) → item ≡ item' → ((m : ℕ) → IsIn (names item) m → field m ≡ field' m) → through_item item field ≡ through_item item' field'
through_same item item' field field' e h = at item h ∙ ap (λ r. through_item r field') e
  where
    at : (r : Res) → ((m : ℕ) → IsIn (names r) m → field m ≡ field' m) → through_item r field ≡ through_item r field'
    at (Complete (Item m)) h = h m (is_head m [])
    at (Placeholder (Item m)) h = ap down (h m (is_head m []))
    at _ h = refl

fields_same : (source : Res) (field field' : ℕ → Res) → ((m : ℕ) → IsIn (names source) m → field m ≡ field' m) → map field (members_of source) ≡ map field' (members_of source)
fields_same source field field' h = map_same field field' (members_of source) (λ m i. h m (listed_in source m i))

sum_same : (t : FactType) (source : Res) (field field' : ℕ → Res) → map field (members_of source) ≡ map field' (members_of source) → sum_over t source field ≡ sum_over t source field'
sum_same types.Dollar source field field' e = rw e refl
sum_same _ source field field' e = rw e refl

count_same : (source : Res) (field field' : ℕ → Res) → map field (members_of source) ≡ map field' (members_of source) → count_of source field ≡ count_of source field'
count_same source field field' e = rw e refl

dependency_same : (results results' : Results) (t : Targets) (at : EvalPosition) (path : UsePath) → AgreeOn results results' t at path → dependency results t at path ≡ dependency results' t at path
dependency_same results results' t at (Global n) h = h.first
dependency_same results results' t at (Sibling n) h = h.first
dependency_same results results' t at (Inner n) h = h.first
dependency_same results results' t at (Each n m) h = refl
dependency_same results results' t at (Through n m) h = through_same (result_at results t.first 0) (result_at results' t.first 0) (result_at results t.second) (result_at results' t.second) h.first (h.second 0 h.first)
dependency_same results results' t at (SiblingThrough n m) h =
    through_same (result_at results t.first at.own) (result_at results' t.first at.own) (result_at results t.second) (result_at results' t.second) h.first (h.second at.own h.first)

read_same : (op : ReadOp) (d : Tree) (results results' : Results) (t : Targets) (at : EvalPosition) (path : UsePath) → AgreeOn results results' t at path → read_by op d results t at path ≡ read_by op d results' t at path
read_same read_op.Dependency d results results' t at path h = dependency_same results results' t at path h
read_same read_op.IsComplete d results results' t at path h = ap complete_test (dependency_same results results' t at path h)
read_same read_op.CollectionSize d results results' t at path h = ap collection_size h.once
read_same read_op.CollectionSum d results results' t at path h =
    sum_same (field_type d t) (collection results t) (result_at results t.second) (result_at results' t.second) (fields_same (collection results t) (result_at results t.second) (result_at results' t.second) (h.second 0 h.once))
    ∙ ap (λ source. sum_over (field_type d t) source (result_at results' t.second)) h.once
read_same read_op.Count d results results' t at path h =
    count_same (collection results t) (result_at results t.second) (result_at results' t.second) (fields_same (collection results t) (result_at results t.second) (result_at results' t.second) (h.second 0 h.once))
    ∙ ap (λ source. count_of source (result_at results' t.second)) h.once

-- ---- an expression of a fact

-- At the places of J, the maps agree on each use whose mentions are of M; and the places of members under conditions are of J.
pub record AgreeUnder (d : Tree) (fact : ℕ) (M : Mention → Type 0) (J : EvalPosition → Type 0) (results results' : Results) : Type 0 where
  pub reads : (at : EvalPosition) → J at → (path : UsePath) → AllOf M (use_mentions d fact at.base (Some path)) → AgreeOn results results' (targets d fact at.base path) at path
  pub enter : (at : EvalPosition) → J at → (path : UsePath) → AllOf M (use_mentions d fact at.base (Some path)) → (m : ℕ) → IsIn (members_of (collection results (targets d fact at.base path))) m → J (entered d fact at (Some path) m)

module _ (d : Tree) (fact : ℕ) (M : Mention → Type 0) (J : EvalPosition → Type 0) (results results' : Results) (h : AgreeUnder d fact M J results results') where
  reads_same : (at : EvalPosition) → J at → (op : ReadOp) (path : Option UsePath) → AllOf M (use_mentions d fact at.base path) → read_result d results fact at op path ≡ read_result d results' fact at op path
  reads_same at j op None k = refl
  reads_same at j op (Some path) k = read_same op d results results' (targets d fact at.base path) at path (h.reads at j path k)

  source_same : (at : EvalPosition) → J at → (path : Option UsePath) → AllOf M (use_mentions d fact at.base path) → source_result d results fact at path ≡ source_result d results' fact at path
  source_same at j None k = refl
  source_same at j (Some path) k = (h.reads at j path k).once

  enters : (at : EvalPosition) → J at → (path : Option UsePath) → AllOf M (use_mentions d fact at.base path) → (m : ℕ) → IsIn (members_of (source_result d results fact at path)) m → J (entered d fact at path m)
  enters at j None k m i = absurd (cc)
  enters at j (Some path) k m i = h.enter at j path k m i

  -- the mentions of a use under the base of a place
  here : (path : Option UsePath) (base : ℕ) (at : EvalPosition) → at.base ≡ base → AllOf M (use_mentions d fact base path) → AllOf M (use_mentions d fact at.base path)
  here path base at e k = subst (λ (b : ℕ). AllOf M (use_mentions d fact b path)) (sym e) k

  agree : AgreeIn (ReadIs d fact M) (SourceIs d fact M) (base_under d fact) (λ base at. (at.base ≡ base) × J at) (source_env d results fact) (source_env d results' fact)
  agree = record {
    constant = λ c. refl;
    reads = λ base at j r k. reads_same at j.1 r.0 r.1.path (here r.1.path base at j.0 k);
    source = λ base at j p k. source_same at j.1 p.path (here p.path base at j.0 k);
    enter = λ base at j p k m i. refl;
    reach = λ base at j p k m i. (ap (λ b. condition_base d fact b p.path) j.0, enters at j.1 p.path (here p.path base at j.0 k) m i);
  }

  -- outside of all conditions
  pub expression_same : (t : Source) → EachUse d fact M (Some t) → (own : ℕ) → J (outermost own) → expression d results (record { fact = fact; member = own }) t ≡ expression d results' (record { fact = fact; member = own }) t
  expression_same t k own j =
      coincide_in (ReadIs d fact M) (SourceIs d fact M) (base_under d fact) (λ base at. (at.base ≡ base) × J at) (source_env d results fact) (source_env d results' fact) agree t 0 k (outermost own) (refl, j)

  pub weight_same : (t : Source) → EachUse d fact M (Some t) → (own : ℕ) → J (outermost own) → weight (source_env d results fact) (outermost own) t ≡ weight (source_env d results' fact) (outermost own) t
  weight_same t k own j =
      weigh_same_in (ReadIs d fact M) (SourceIs d fact M) (base_under d fact) (λ base at. (at.base ≡ base) × J at) (source_env d results fact) (source_env d results' fact) agree t 0 k (outermost own) (refl, j)

  pub visits_same : (t : Source) → EachUse d fact M (Some t) → (own : ℕ) → J (outermost own) → visits (source_env d results fact) (outermost own) t ≡ visits (source_env d results' fact) (outermost own) t
  visits_same t k own j =
      visit-same-in (ReadIs d fact M) (SourceIs d fact M) (base_under d fact) (λ base at. (at.base ≡ base) × J at) (source_env d results fact) (source_env d results' fact) agree t 0 k (outermost own) (refl, j)

-- ---- a slot

-- what was given to it is the same
pub record SameGiven (a b : Answered) (s : Slot) (stated : Stated) : Type 0 where
  pub value : given_value stated a s ≡ given_value stated b s
  pub override : value_of Override a s ≡ value_of Override b s

module _ (d : Tree) (a b : Answered) (results results' : Results) (s : Slot) (M : Mention → Type 0) (J : EvalPosition → Type 0) (h : AgreeUnder d s.fact M J results results') (j : J (outermost s.member)) where
  main_same : (stated : Stated) (t : Option Source) → SameGiven a b s stated → EachUse d s.fact M t → main_result d a results s stated t ≡ main_result d b results' s stated t
  main_same stated None g k = ap answer_result g.value
  main_same stated (Some t) g k =
      ap (λ v. or_override v (expression d results s t)) g.override ∙ ap (or_override (value_of Override b s)) (expression_same d s.fact M J results results' h t k s.member j)

  placeholder_same : (t : Option Source) → EachUse d s.fact M t → (r : Res) → or_placeholder d results s t r ≡ or_placeholder d results' s t r
  placeholder_same None k r = refl
  placeholder_same (Some t) k Incomplete = ap down (expression_same d s.fact M J results results' h t k s.member j)
  placeholder_same (Some t) k (Complete v) = refl
  placeholder_same (Some t) k (Placeholder v) = refl
  placeholder_same (Some t) k (Fault fault) = refl

  pub slot_same : (f : Fact) → SameGiven a b s f.stated → EachUse d s.fact M (body f) × EachUse d s.fact M f.placeholder → slot_result d a results s f ≡ slot_result d b results' s f
  slot_same f g k =
      ap (or_placeholder d results s f.placeholder) (main_same f.stated (body f) g k.0) ∙ placeholder_same f.placeholder k.1 (main_result d b results' s f.stated (body f))
