-- The cells that a node reads decide its result.
use Rattle.std.proofs.Common.{◌≡◌, ℕ, Bool, true, IsTrue, List, [], ◌∷◌, map, flat_map, Option, Some, None, refl, sym, ap, ◌∙◌}
use Rattle.std.specs.Prelude.{pos, count_by, Ok, unwrap_or}
use Rattle.std.specs.List.{list_all}
use Rattle.std.proofs.lemmas.List.Folds.{list_all-append}
use Rattle.common_lemmas.proofs.Bools.{both}
use Rattle.fact_values.specs.declared.slot.Slot.{Slot}
use Rattle.fact_values.specs.declared.value.Value.TheVariants.{Int, Item}
use Rattle.three_state.specs.Results.{down, fields_in, members_of, strict, truth}
use Rattle.three_state.specs.declared.res.Res.{Res}
use Rattle.three_state.specs.declared.res.Res.TheVariants.{Complete, Placeholder, Incomplete}
use Rattle.evaluation.specs.Operations.{sum_of_dollars, sum_of_ints}
use Rattle.evaluation.specs.Over.{over}
use Rattle.evaluation.specs.Reads.{collection_size, complete_test, through_item}
use Rattle.evaluation.specs.SlotsRead.{AnswerAlike, member_read}
use Rattle.evaluation.proofs.ReadsLaws.{reads-decide}
use Rattle.evaluation.specs.Results.{Results, result_at, slot}
use Rattle.node_eval.specs.Dependencies.{collection, dependency, field, first_of, node_env, read_result, second_of}
use Rattle.node_eval.specs.SlotsOf.{collection_slots, dependency_slots, field_slots, node_reads, read_slots, slot_at, slots_of, through_slots}
use Rattle.node_eval.specs.View.{Compiled}
use Rattle.node_eval.specs.declared.node.NodeRead.{NodeRead}
use Rattle.node_eval.specs.declared.node.NodeRead.TheVariants as node_read
use Rattle.node_eval.specs.declared.node.ResolvedPath.{ResolvedPath}
use Rattle.node_eval.specs.declared.node.ResolvedPath.TheVariants.{Global, Same, Inner, Each, Through, SameThrough}
use Rattle.node_eval.specs.declared.node_position.NodePosition.{NodePosition}

module _ (test : Slot → Bool) (results results' : Results) (same : (s : Slot) → IsTrue (test s) → results s ≡ results' s) where
  abbrev Pass : List Slot → Type 0
  Pass ss = IsTrue (list_all test ss)

  at-same : (o : Option ℕ) (m : ℕ) → Pass (slot_at o m) → result_at results o m ≡ result_at results' o m
  at-same None m h = refl
  at-same (Some n) m h = ap (λ r. unwrap_or r Incomplete) (same (slot n m) (both (test (slot n m)) true h).0)

  -- ---- through an item

  field-same : (item : Res) (m : ℕ) → Pass (flat_map (slot_at (Some m)) (member_read item)) → through_item item (result_at results (Some m)) ≡ through_item item (result_at results' (Some m))
  field-same (Complete (Item k)) m h = at-same (Some m) k h
  field-same (Placeholder (Item k)) m h = ap down (at-same (Some m) k h)
  field-same _ m h = refl

  through-same : (n m member : ℕ) → Pass (through_slots results n m member)
      → through_item (result_at results (Some n) member) (result_at results (Some m)) ≡ through_item (result_at results' (Some n) member) (result_at results' (Some m))
  through-same n m member h =
      let item = result_at results (Some n) member in
      let rest = flat_map (slot_at (Some m)) (member_read item) in
      let parts = both (test (slot n member)) (list_all test rest) h in
      field-same item m parts.1 ∙ ap (λ r. through_item r (result_at results' (Some m))) (ap (λ r. unwrap_or r Incomplete) (same (slot n member) parts.0))

  dependency-same : (at : NodePosition) (r : ResolvedPath) → Pass (dependency_slots results at r) → dependency results at r ≡ dependency results' at r
  dependency-same at (Global n) h = at-same (Some n) 0 h
  dependency-same at (Same n) h = at-same (Some n) at.own h
  dependency-same at (Inner n) h = at-same (Some n) at.inner h
  dependency-same at (Each n m) h = refl
  dependency-same at (Through n m) h = through-same n m 0 h
  dependency-same at (SameThrough n m) h = through-same n m at.own h

  -- ---- over the members of a collection

  source-same : (r : ResolvedPath) → Pass (collection_slots r) → collection results r ≡ collection results' r
  source-same r h = at-same (Some (first_of r)) 0 h

  fields-same : (o : Option ℕ) (ms : List ℕ) → Pass (flat_map (slot_at o) ms) → map (result_at results o) ms ≡ map (result_at results' o) ms
  fields-same o [] h = refl
  fields-same o (m ∷ ms) h =
      let parts = both (list_all test (slot_at o m)) (list_all test (flat_map (slot_at o) ms)) (sym (list_all-append test (slot_at o m) (flat_map (slot_at o) ms)) ∙ h) in
      ap (λ r. r ∷ map (result_at results o) ms) (at-same o m parts.0) ∙ ap (λ rs. result_at results' o m ∷ rs) (fields-same o ms parts.1)

  -- of a node that looks at the fields of the members alone
  over-same : (node : Res → List Res → Res) (r : ResolvedPath) → Pass (field_slots results r)
      → node (collection results r) (map (field results r) (members_of (collection results r))) ≡ node (collection results' r) (map (field results' r) (members_of (collection results' r)))
  over-same node r h =
      let source = collection results r in
      let fields = flat_map (slot_at (second_of r)) (members_of source) in
      let parts = both (test (slot (first_of r) 0)) (list_all test fields) h in
      let is = ap (λ o. unwrap_or o Incomplete) (same (slot (first_of r) 0) parts.0) in
      ap (node source) (fields-same (second_of r) (members_of source) parts.1) ∙ ap (λ s. node s (map (field results' r) (members_of s))) is

  read-same : (at : NodePosition) (op : NodeRead) (r : ResolvedPath) → Pass (read_slots results at op r) → read_result results at op r ≡ read_result results' at op r
  read-same at node_read.Dependency r h = dependency-same at r h
  read-same at node_read.IsComplete r h = ap complete_test (dependency-same at r h)
  read-same at node_read.CollectionSize r h = ap collection_size (source-same r h)
  read-same at node_read.SumInt r h = over-same (λ s fields. strict (λ vs. sum_of_ints (fields_in vs)) (s ∷ fields)) r h
  read-same at node_read.SumDollar r h = over-same (λ s fields. strict (λ vs. sum_of_dollars (fields_in vs)) (s ∷ fields)) r h
  read-same at node_read.Count r h = over-same (λ s fields. strict (λ vs. Ok (Int (pos (count_by truth (fields_in vs))))) (s ∷ fields)) r h

  alike : AnswerAlike (node_reads results) test (node_env results) (node_env results')
  alike = record {
    constant = λ c. refl;
    enter = λ at r m. refl;
    reads = λ at r h. read-same at r.0 r.1 h;
    source = λ at r h. source-same r h;
  }

pub cells-decide : (test : Slot → Bool) (results results' : Results) → ((s : Slot) → IsTrue (test s) → results s ≡ results' s)
    → (t : Compiled) (at : NodePosition) → IsTrue (list_all test (slots_of results at t)) → over (node_env results) at t ≡ over (node_env results') at t
cells-decide test results results' same t at h = reads-decide (node_reads results) test (node_env results) (node_env results') (alike test results results' same) t at h
