-- What holds of the slots of each use's targets holds of all that a slot reads.
use Rattle.std.proofs.Common.{◌≡◌, ℕ, Bool, true, false, if◌then◌else◌, List, [], flat_map, Option, Some, None, is_some, refl, sym, ap, subst}
use Rattle.fact_paths.specs.declared.use_path.UsePath.{UsePath}
use Rattle.fact_paths.specs.declared.use_path.UsePath.TheVariants.{Global, Sibling, Inner, Each, Through, SiblingThrough}
use Rattle.fact_values.specs.declared.slot.Slot.{Slot}
use Rattle.fact_values.specs.declared.value.Value.{Value}
use Rattle.fact_values.specs.declared.value.Value.TheVariants.{Item}
use Rattle.dict_source.specs.declared.mentions.Mention.{Mention}
use Rattle.dict_source.specs.declared.operators.ReadOp.{ReadOp}
use Rattle.dict_source.specs.declared.operators.ReadOp.TheVariants as read_op
use Rattle.dict_source.specs.declared.targets.Targets.{Targets}
use Rattle.dict_source.specs.Dictionary.{Dictionary as Tree}
use Rattle.dict_source.specs.Facts.{Fact}
use Rattle.dict_source.specs.Mentions.{condition_base, use_mentions}
use Rattle.dict_source.specs.Targets.{targets}
use Rattle.dict_source.specs.Tree.{Source}
use Rattle.three_state.specs.declared.res.Res.{Res}
use Rattle.three_state.specs.declared.res.Res.TheVariants.{Complete, Placeholder, Incomplete, Fault}
use Rattle.three_state.specs.Results.{is_incomplete, members_of}
use Rattle.evaluation.specs.Agreement.{IsIn}
use Rattle.evaluation.specs.Mentioned.{AllOf}
use Rattle.evaluation.specs.SlotsRead.{item_read, member_named, member_read}
use Rattle.answers.specs.Answered.{Answered, value_of}
use Rattle.answers.specs.declared.edit.Side.TheVariants.{Override}
use Rattle.dict_meaning.specs.Plain.{body, main_result}
use Rattle.dict_meaning.specs.Dependencies.{EvalPosition, collection, entered, outermost, source_env, source_result}
use Rattle.evaluation.specs.Results.{Results, result_at}
use Rattle.dict_meaning.proofs.FactMentions.{EachUse}
use Rattle.dict_meaning.proofs.MentionedLaws.{ReadIs, SourceIs, base_under}
use Rattle.dict_meaning.proofs.ReadAgreement.{first_member, listed_in, names}
use Rattle.dict_meaning.proofs.FinalLaws.{all_join}
use Rattle.source_eval.specs.NodeReads.{dependency_reads, field_reads, node_reads, reads_by, reads_of_op, source_reads, target_slot}
use Rattle.explain.specs.Reads.{expression_reads, fact_reads, main_reads, placeholder_reads}
use Rattle.explain.proofs.AllReads.{AllRead, all_flat, all_read}

-- ---- one use

-- H holds of the slots that a use may read of its targets
pub record HoldsOf (results : Results) (t : Targets) (at : EvalPosition) (path : UsePath) (H : Slot → Type 0) : Type 0 where
  pub once : AllOf H (target_slot t.first 0)
  pub first : AllOf H (target_slot t.first (first_member at path))
  pub second : (k : ℕ) → (m : ℕ) → IsIn (names (result_at results t.first k)) m → AllOf H (target_slot t.second m)

named_value : (v : Value) (m : ℕ) → IsIn (member_named v) m → IsIn (names (Complete v)) m
named_value (Item n) m i = i
named_value _ m i = absurd (cc)

named : (r : Res) (m : ℕ) → IsIn (member_read r) m → IsIn (names r) m
named (Complete v) m i = named_value v m i
named (Placeholder v) m i = named_value v m i
named Incomplete m i = i
named (Fault fault) m i = i

all_of_item : (H : Slot → Type 0) (item : Res) (by_item : List Slot) (field : ℕ → List Slot) → AllOf H by_item → ((m : ℕ) → IsIn (names item) m → AllOf H (field m)) → AllOf H (item_read item by_item field)
all_of_item H item by_item field h k = all_join H by_item (flat_map field (member_read item)) h (all_flat H field (member_read item) (λ m i. k m (named item m i)))

all_of_dependency : (H : Slot → Type 0) (results : Results) (t : Targets) (at : EvalPosition) (path : UsePath) → HoldsOf results t at path H → AllOf H (dependency_reads results t at path)
all_of_dependency H results t at (Global n) h = h.first
all_of_dependency H results t at (Sibling n) h = h.first
all_of_dependency H results t at (Inner n) h = h.first
all_of_dependency H results t at (Each n m) h = tt
all_of_dependency H results t at (Through n m) h = all_of_item H (result_at results t.first 0) (target_slot t.first 0) (target_slot t.second) h.first (h.second 0)
all_of_dependency H results t at (SiblingThrough n m) h = all_of_item H (result_at results t.first at.own) (target_slot t.first at.own) (target_slot t.second) h.first (h.second at.own)

all_of_fields : (H : Slot → Type 0) (results : Results) (t : Targets) (at : EvalPosition) (path : UsePath) → HoldsOf results t at path H → AllOf H (field_reads results t)
all_of_fields H results t at path h =
    all_join H (target_slot t.first 0) (flat_map (target_slot t.second) (members_of (collection results t))) h.once
    (all_flat H (target_slot t.second) (members_of (collection results t)) (λ m i. h.second 0 m (listed_in (collection results t) m i)))

all_of_op : (op : ReadOp) (H : Slot → Type 0) (results : Results) (t : Targets) (at : EvalPosition) (path : UsePath) → HoldsOf results t at path H → AllOf H (reads_of_op op results t at path)
all_of_op read_op.Dependency H results t at path h = all_of_dependency H results t at path h
all_of_op read_op.IsComplete H results t at path h = all_of_dependency H results t at path h
all_of_op read_op.CollectionSize H results t at path h = h.once
all_of_op read_op.CollectionSum H results t at path h = all_of_fields H results t at path h
all_of_op read_op.Count H results t at path h = all_of_fields H results t at path h

-- ---- an expression of a fact

-- At the places of J, H holds of what each use whose mentions are of M may read; and the places of members under conditions are of J.
pub record HoldsUnder (d : Tree) (fact : ℕ) (M : Mention → Type 0) (J : EvalPosition → Type 0) (results : Results) (H : Slot → Type 0) : Type 0 where
  pub reads : (at : EvalPosition) → J at → (path : UsePath) → AllOf M (use_mentions d fact at.base (Some path)) → HoldsOf results (targets d fact at.base path) at path H
  pub enter : (at : EvalPosition) → J at → (path : UsePath) → AllOf M (use_mentions d fact at.base (Some path)) → (m : ℕ) → IsIn (members_of (collection results (targets d fact at.base path))) m → J (entered d fact at (Some path) m)

module _ (d : Tree) (a : Answered) (s : Slot) (M : Mention → Type 0) (J : EvalPosition → Type 0) (results : Results) (H : Slot → Type 0) (h : HoldsUnder d s.fact M J results H) where
  of_node : (at : EvalPosition) → J at → (op : ReadOp) (path : Option UsePath) → AllOf M (use_mentions d s.fact at.base path) → AllOf H (node_reads d results s.fact at op path)
  of_node at j op None k = tt
  of_node at j op (Some path) k = all_of_op op H results (targets d s.fact at.base path) at path (h.reads at j path k)

  of_source : (at : EvalPosition) → J at → (path : Option UsePath) → AllOf M (use_mentions d s.fact at.base path) → AllOf H (source_reads d s.fact at path)
  of_source at j None k = tt
  of_source at j (Some path) k = (h.reads at j path k).once

  enters : (at : EvalPosition) → J at → (path : Option UsePath) → AllOf M (use_mentions d s.fact at.base path) → (m : ℕ) → IsIn (members_of (source_result d results s.fact at path)) m → J (entered d s.fact at path m)
  enters at j None k m i = absurd (cc)
  enters at j (Some path) k m i = h.enter at j path k m i

  -- the mentions of a use under the base of a place
  here : (path : Option UsePath) (base : ℕ) (at : EvalPosition) → at.base ≡ base → AllOf M (use_mentions d s.fact base path) → AllOf M (use_mentions d s.fact at.base path)
  here path base at e k = subst (λ (b : ℕ). AllOf M (use_mentions d s.fact b path)) (sym e) k

  of_nodes : AllRead (ReadIs d s.fact M) (SourceIs d s.fact M) (base_under d s.fact) (λ base at. (at.base ≡ base) × J at) (source_env d results s.fact) (reads_by d results s.fact) H
  of_nodes = record {
    reads = λ base at j r k. of_node at j.1 r.0 r.1.path (here r.1.path base at j.0 k);
    source = λ base at j p k. of_source at j.1 p.path (here p.path base at j.0 k);
    reach = λ base at j p k m i. (ap (λ b. condition_base d s.fact b p.path) j.0, enters at j.1 p.path (here p.path base at j.0 k) m i);
  }

  module _ (j : J (outermost s.member)) where
    of_expression : (t : Source) → EachUse d s.fact M (Some t) → AllOf H (expression_reads d results s t)
    of_expression t k =
        all_read (ReadIs d s.fact M) (SourceIs d s.fact M) (base_under d s.fact) (λ base at. (at.base ≡ base) × J at) (source_env d results s.fact) (reads_by d results s.fact) H of_nodes t 0 k (outermost s.member) (refl, j)

    unless : (b : Bool) (t : Source) → EachUse d s.fact M (Some t) → AllOf H (if b then [] else expression_reads d results s t)
    unless true t k = tt
    unless false t k = of_expression t k

    of_main : (t : Option Source) → EachUse d s.fact M t → AllOf H (main_reads d a results s t)
    of_main None k = tt
    of_main (Some t) k = unless (is_some (value_of Override a s)) t k

    of_placeholder : (t : Option Source) (incomplete : Bool) → EachUse d s.fact M t → AllOf H (placeholder_reads d results s t incomplete)
    of_placeholder None b k = tt
    of_placeholder (Some t) true k = of_expression t k
    of_placeholder (Some t) false k = tt

    -- ---- a slot of a fact

    pub of_fact : (f : Fact) → EachUse d s.fact M (body f) × EachUse d s.fact M f.placeholder → AllOf H (fact_reads d a results s f)
    of_fact f k =
        let incomplete = is_incomplete (main_result d a results s f.stated (body f)) in
        all_join H (main_reads d a results s (body f)) (placeholder_reads d results s f.placeholder incomplete) (of_main (body f) k.0) (of_placeholder f.placeholder incomplete k.1)
