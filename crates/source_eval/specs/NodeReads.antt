-- Which slots a node reads, by the results that are known.
use Rattle.std.specs.Prelude.{ℕ, List, [], ◌∷◌, Option, Some, None}
use Rattle.fact_paths.specs.declared.use_path.UsePath.{UsePath}
use Rattle.fact_paths.specs.declared.use_path.UsePath.TheVariants.{Global, Sibling, Inner, Each, Through, SiblingThrough}
use Rattle.fact_values.specs.declared.slot.Slot.{Slot}
use Rattle.dict_source.specs.declared.operators.ReadOp.{ReadOp}
use Rattle.dict_source.specs.declared.operators.ReadOp.TheVariants.{Dependency, IsComplete, CollectionSize, CollectionSum, Count}
use Rattle.dict_source.specs.declared.targets.Targets.{Targets}
use Rattle.dict_source.specs.Dictionary.{Dictionary as Tree}
use Rattle.dict_source.specs.Targets.{targets}
use Rattle.dict_source.specs.Tree.{Reading, Use}
use Rattle.evaluation.specs.SlotsRead.{ReadBy, fields_read, item_read}
use Rattle.dict_meaning.specs.Dependencies.{EvalPosition, collection}
use Rattle.evaluation.specs.Results.{Results, result_at, slot}

-- the slot of a target: none where a path has no target
abbrev pub target_slot : Option ℕ → ℕ → List Slot
target_slot None member = []
target_slot (Some fact) member = slot fact member ∷ []

-- through an Item the item's slot and, where this names a member, that member's field
abbrev pub dependency_reads : Results → Targets → EvalPosition → UsePath → List Slot
dependency_reads results t at (Global n) = target_slot t.first 0
dependency_reads results t at (Sibling n) = target_slot t.first at.own
dependency_reads results t at (Inner n) = target_slot t.first at.inner
dependency_reads results t at (Each n m) = []
dependency_reads results t at (Through n m) = item_read (result_at results t.first 0) (target_slot t.first 0) (target_slot t.second)
dependency_reads results t at (SiblingThrough n m) = item_read (result_at results t.first at.own) (target_slot t.first at.own) (target_slot t.second)

-- the collection
abbrev pub collection_reads : Targets → List Slot
collection_reads t = target_slot t.first 0

-- the collection and the field of each listed member
abbrev pub field_reads : Results → Targets → List Slot
field_reads results t = fields_read (collection results t) (collection_reads t) (target_slot t.second)

abbrev pub reads_of_op : ReadOp → Results → Targets → EvalPosition → UsePath → List Slot
reads_of_op Dependency results t at path = dependency_reads results t at path
reads_of_op IsComplete results t at path = dependency_reads results t at path
reads_of_op CollectionSize results t at path = collection_reads t
reads_of_op CollectionSum results t at path = field_reads results t
reads_of_op Count results t at path = field_reads results t

-- a path that the grammar has no reading of reads nothing
abbrev pub node_reads : Tree → Results → ℕ → EvalPosition → ReadOp → Option UsePath → List Slot
node_reads d results fact at op None = []
node_reads d results fact at op (Some path) = reads_of_op op results (targets d fact at.base path) at path

abbrev pub source_reads : Tree → ℕ → EvalPosition → Option UsePath → List Slot
source_reads d fact at None = []
source_reads d fact at (Some path) = collection_reads (targets d fact at.base path)

-- what the nodes of this fact's expressions read
abbrev pub reads_by : Tree → Results → ℕ → ReadBy Reading Use EvalPosition Slot
reads_by d results fact = record {
  reads = λ at r. node_reads d results fact at r.0 r.1.path;
  source = λ at u. source_reads d fact at u.path;
}
