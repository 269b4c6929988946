-- A name stands for a node just where it is the node's name.
use Rattle.std.proofs.Common.{◌≡◌, ℕ, List, [], ◌∷◌, Bool, true, false, cond, Option, Some, refl, ap, ◌∙◌}
use Rattle.std.specs.Prelude.{bytes_eq}
use Rattle.std.specs.List.{list_all}
use Rattle.std.proofs.lemmas.Option.{same_Some}
use Rattle.common_lemmas.proofs.Bools.{both}
use Rattle.common_lemmas.proofs.Bytes.{same_bytes}
use Rattle.fact_json.specs.Names.{node_name, node_named, node_names, under_name}
use Rattle.dict_source.specs.declared.operators.ReadOp.TheVariants as reads
use Rattle.dict_source.specs.declared.operators.ManyOp.TheVariants as manies
use Rattle.fact_json.specs.declared.node_name.OneName.TheVariants as one_names
use Rattle.dict_source.specs.declared.operators.TwoOp.TheVariants as twos
use Rattle.dict_source.specs.declared.operators.PickOp.TheVariants as picks
use Rattle.fact_json.specs.declared.node_name.ConstantName.TheVariants as constants
use Rattle.fact_json.specs.declared.node_name.NodeName.{NodeName}
use Rattle.fact_json.specs.declared.node_name.NodeName.TheVariants as names

named_row : {A : Type 0} (word : A → List ℕ) (here name : List ℕ) (a b : A) (rest : Option A) (hit : Bool) → bytes_eq name here ≡ hit → bytes_eq here (word a) ≡ true → (rest ≡ Some b → name ≡ word b) → cond hit (Some a) rest ≡ Some b → name ≡ word b
named_row word here name a b rest true is own go e = same_bytes name here is ∙ same_bytes here (word a) own ∙ ap word (same_Some a b e)
named_row word here name a b rest false is own go e = go e

-- what is found in a table under a name has this name, where each row is under its own
pub named_so : {A : Type 0} (word : A → List ℕ) (rows : List (List ℕ × A)) (name : List ℕ) (a : A) → list_all (λ r. bytes_eq r.0 (word r.1)) rows ≡ true → under_name name rows ≡ Some a → name ≡ word a
named_so word [] name a all e = absurd cc
named_so word (r ∷ rows) name a all e =
    let own = both (bytes_eq r.0 (word r.1)) (list_all (λ r. bytes_eq r.0 (word r.1)) rows) all in
    named_row word r.0 name r.1 a (under_name name rows) (bytes_eq name r.0) refl own.0 (named_so word rows name a own.1) e

-- each node is read of its name
pub node_named-node_name : (node : NodeName) → node_named (node_name node) ≡ Some node
node_named-node_name (names.Constant constants.True) = refl
node_named-node_name (names.Constant kind) = refl
node_named-node_name (names.Read reads.Dependency) = refl
node_named-node_name (names.Read op) = refl
node_named-node_name names.Switch = refl
node_named-node_name (names.Many manies.All) = refl
node_named-node_name (names.Many op) = refl
node_named-node_name (names.One one_names.Not) = refl
node_named-node_name (names.One op) = refl
node_named-node_name (names.Two twos.Multiply) = refl
node_named-node_name (names.Two op) = refl
node_named-node_name (names.Pick picks.Filter) = refl
node_named-node_name (names.Pick op) = refl
node_named-node_name names.Lookup = refl

-- a name of which a node is read is the node's name
pub node_named_some : (name : List ℕ) (node : NodeName) → node_named name ≡ Some node → name ≡ node_name node
node_named_some name node found = named_so node_name node_names name node refl found
