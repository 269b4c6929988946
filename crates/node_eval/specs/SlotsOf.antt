-- The slots that a node reads, for what `evaluation` says of all that an evaluation reads.
use Rattle.std.specs.Prelude.{◌≡◌, ℕ, Bool, IsTrue, List, [], ◌∷◌, Option, Some, None}
use Rattle.std.specs.List.{list_all}
use Rattle.fact_values.specs.declared.slot.Slot.{Slot}
use Rattle.evaluation.specs.Over.{over}
use Rattle.evaluation.specs.SlotsRead.{ReadBy, fields_read, item_read, slots_read}
use Rattle.evaluation.specs.Results.{Results, result_at, slot}
use Rattle.node_eval.specs.Dependencies.{collection, first_of, node_env, second_of}
use Rattle.node_eval.specs.View.{Compiled, Reading}
use Rattle.node_eval.specs.declared.node.NodeRead.{NodeRead}
use Rattle.node_eval.specs.declared.node.NodeRead.TheVariants as node_read
use Rattle.node_eval.specs.declared.node.ResolvedPath.{ResolvedPath}
use Rattle.node_eval.specs.declared.node.ResolvedPath.TheVariants.{Global, Same, Inner, Each, Through, SameThrough}
use Rattle.node_eval.specs.declared.node_position.NodePosition.{NodePosition}

-- the slot of a fact at a member
abbrev pub slot_at : Option ℕ → ℕ → List Slot
slot_at None m = []
slot_at (Some n) m = slot n m ∷ []

-- that of an item, and that of the field of the member that it names
abbrev pub through_slots : Results → ℕ → ℕ → ℕ → List Slot
through_slots results n m member = item_read (result_at results (Some n) member) (slot n member ∷ []) (slot_at (Some m))

abbrev pub dependency_slots : Results → NodePosition → ResolvedPath → List Slot
dependency_slots results at (Global n) = slot n 0 ∷ []
dependency_slots results at (Same n) = slot n at.own ∷ []
dependency_slots results at (Inner n) = slot n at.inner ∷ []
dependency_slots results at (Each n m) = []
dependency_slots results at (Through n m) = through_slots results n m 0
dependency_slots results at (SameThrough n m) = through_slots results n m at.own

abbrev pub collection_slots : ResolvedPath → List Slot
collection_slots r = slot (first_of r) 0 ∷ []

-- that of the collection, and those of the field of its members
abbrev pub field_slots : Results → ResolvedPath → List Slot
field_slots results r = fields_read (collection results r) (collection_slots r) (slot_at (second_of r))

abbrev pub read_slots : Results → NodePosition → NodeRead → ResolvedPath → List Slot
read_slots results at node_read.Dependency r = dependency_slots results at r
read_slots results at node_read.IsComplete r = dependency_slots results at r
read_slots results at node_read.CollectionSize r = collection_slots r
read_slots results at node_read.SumInt r = field_slots results r
read_slots results at node_read.SumDollar r = field_slots results r
read_slots results at node_read.Count r = field_slots results r

abbrev pub node_reads : Results → ReadBy Reading ResolvedPath NodePosition Slot
node_reads results = record {
  reads = λ at r. read_slots results at r.0 r.1;
  source = λ at r. collection_slots r;
}

-- all that the evaluation of a node reads at a place, in order
abbrev pub slots_of : Results → NodePosition → Compiled → List Slot
slots_of results at t = slots_read (node_env results) (node_reads results) at t

-- ---- a law

-- where two maps agree on these slots, the result is the same
abbrev pub CellsDecide : Type 0
CellsDecide =
    (test : Slot → Bool) (results results' : Results) → ((s : Slot) → IsTrue (test s) → results s ≡ results' s)
    → (t : Compiled) (at : NodePosition) → IsTrue (list_all test (slots_of results at t)) → over (node_env results) at t ≡ over (node_env results') at t
