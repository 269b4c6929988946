-- The types of the nodes of a dictionary's facts, and the first fault among them.
use Rattle.std.specs.Prelude.{◌≡◌, ◌↔◌, ℕ, ◌+◌, ◌==◌, Option, Some, None, Result, Ok, Err, ok_or, option_and_then, if◌then◌else◌, ⊤}
use Rattle.fact_paths.specs.declared.use_path.UsePath.{UsePath}
use Rattle.fact_paths.specs.declared.use_path.UsePath.TheVariants as uses
use Rattle.fact_values.specs.declared.fact_type.FactType.{FactType}
use Rattle.fact_values.specs.declared.fact_type.FactType.TheVariants as types
use Rattle.dict_source.specs.declared.operators.ReadOp.{ReadOp}
use Rattle.dict_source.specs.declared.operators.ReadOp.TheVariants as reads
use Rattle.dict_source.specs.declared.targets.Targets.{Targets}
use Rattle.dict_source.specs.Tree.{Literal, Reading, Use, Source, SourceCase, size}
use Rattle.dict_source.specs.Facts.{Fact, option_size, conditional_size}
use Rattle.dict_source.specs.Dictionary.{Dictionary}
use Rattle.dict_source.specs.Targets.{targets}
use Rattle.dict_source.specs.Mentions.{condition_base}
use Rattle.dict_source.specs.OperandTypes.{same_type}
use Rattle.dict_source.specs.Tables.{is_fit}
use Rattle.dict_source.specs.Typing.{ReadType, Types}
use Rattle.node_types.specs.Constants.{literal_type}
use Rattle.node_types.specs.Inferring.{◌>>=◌, type_of}
use Rattle.node_types.specs.ListSizes.{list_sizes}
use Rattle.node_types.specs.StatedTypes.{stated_type, type_at}

-- ---- reads

-- the last of the facts that a path names
abbrev pub last_target : UsePath → Targets → Option ℕ
last_target (uses.Global n) t = t.first
last_target (uses.Sibling n) t = t.first
last_target (uses.Inner n) t = t.first
last_target (uses.Each n m) t = t.second
last_target (uses.Through n m) t = t.second
last_target (uses.SiblingThrough n m) t = t.second

abbrev pub size_type : FactType → Option FactType
size_type (types.Collection c) = Some types.Int
size_type _ = None

abbrev pub field_sum_type : FactType → Option FactType
field_sum_type types.Int = Some types.Int
field_sum_type types.Dollar = Some types.Dollar
field_sum_type _ = None

abbrev pub count_type : FactType → Option FactType
count_type types.Boolean = Some types.Int
count_type _ = None

-- from the type of the fact that is read, where it has one; IsComplete may read any fact
abbrev pub read_type : ReadOp → Option FactType → Option FactType
read_type reads.Dependency t = t
read_type reads.IsComplete t = Some types.Boolean
read_type reads.CollectionSize t = option_and_then size_type t
read_type reads.CollectionSum t = option_and_then field_sum_type t
read_type reads.Count t = option_and_then count_type t

abbrev pub target_type : Dictionary → ReadOp → Option ℕ → Option FactType
target_type d op None = None
target_type d op (Some n) = read_type op (type_at d n)

abbrev pub path_type : Dictionary → ℕ → ℕ → ReadOp → Option UsePath → Option FactType
path_type d fact base op None = None
path_type d fact base op (Some path) = target_type d op (last_target path (targets d fact base path))

-- ---- the same by the rules of reads

-- from the type of the fact that is read, where it has one; IsComplete may read any fact
abbrev pub ReadsAs : ReadOp → Option FactType → FactType → Type 0
ReadsAs reads.IsComplete o t = t ≡ types.Boolean
ReadsAs op o t = (u : FactType) × (o ≡ Some u) × ReadType op u t

-- the path's last target is a fact
abbrev pub PathReadsAs : Dictionary → ℕ → ℕ → ReadOp → Option UsePath → FactType → Type 0
PathReadsAs d fact base op path t = (p : UsePath) × (n : ℕ) × (path ≡ Some p) × (last_target p (targets d fact base p) ≡ Some n) × ReadsAs op (type_at d n) t

-- a law: a node that reads a path has exactly the type by the rules
abbrev pub ReadsAreByRule : Type 0
ReadsAreByRule = (d : Dictionary) (fact base : ℕ) (op : ReadOp) (path : Option UsePath) (t : FactType) → (path_type d fact base op path ≡ Some t) ↔ PathReadsAs d fact base op path t

-- ---- what a fact's expressions are made of

-- no fact has the number 0
abbrev pub known : ℕ → Option ℕ
known n = if n == 0 then None else Some n

-- the types of constants, of reads, the bases of collections, and the tables that fit, in the fact with this number
abbrev pub types_in : Dictionary → ℕ → Types Literal Reading Use
types_in d fact = record {
  constant = literal_type d.enums;
  reads = λ base r. path_type d fact base r.0 r.1.path;
  source = λ base u. known (condition_base d fact base u.path);
  fits = is_fit (list_sizes d.enums);
}

-- ---- the four expressions of a fact

-- the root, with the number n, has another type than is wanted
abbrev pub root_as : ℕ → FactType → FactType → Result ⊤ ℕ
root_as n want t = if same_type t want then Ok tt else Err n

abbrev pub expr_as : Types Literal Reading Use → ℕ → FactType → Source → Result ⊤ ℕ
expr_as ty n want t = type_of ty n 0 t >>= λ u. root_as n want u

abbrev pub option_as : Types Literal Reading Use → ℕ → FactType → Option Source → Result ⊤ ℕ
option_as ty n want None = Ok tt
option_as ty n want (Some t) = expr_as ty n want t

-- the condition is Boolean, and the value of the fact's type
abbrev pub conditional_as : Types Literal Reading Use → ℕ → FactType → Option SourceCase → Result ⊤ ℕ
conditional_as ty n want None = Ok tt
conditional_as ty n want (Some c) = expr_as ty n types.Boolean c.0 >>= λ _. expr_as ty (n + size c.0) want c.1

-- main, then the conditional, then the placeholder, with numbers from 1
abbrev pub nodes_as : Types Literal Reading Use → FactType → Fact → Result ⊤ ℕ
nodes_as ty want f = option_as ty 1 want f.main >>= λ _. conditional_as ty (1 + option_size f.main) want f.conditional >>= λ _. option_as ty (1 + option_size f.main + conditional_size f.conditional) want f.placeholder

-- the fact's type, or the first node at fault: 0 where the stated type has no meaning
abbrev pub fact_typed : Dictionary → ℕ → Fact → Result FactType ℕ
fact_typed d n f = ok_or (stated_type d f) 0 >>= λ want. nodes_as (types_in d n) want f >>= λ _. Ok want
