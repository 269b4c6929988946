-- The readers of the facts of a small dictionary, by example.
use Rattle.std.proofs.Common.{◌≡◌, ℕ, Bool, true, false, List, [], ◌∷◌, Some, None, Option, refl}
use Rattle.std.specs.Prelude.{codes}
use Rattle.fact_paths.specs.Paths.{fact_path_text, use_path_text}
use Rattle.fact_paths.specs.declared.fact_path.FactPath.{FactPath}
use Rattle.fact_paths.specs.declared.fact_path.FactPath.TheVariants as facts
use Rattle.fact_paths.specs.declared.use_path.UsePath.{UsePath}
use Rattle.fact_paths.specs.declared.use_path.UsePath.TheVariants as uses
use Rattle.fact_values.specs.declared.fact_type.FactType.TheVariants as types
use Rattle.dict_source.specs.declared.operators.ManyOp.TheVariants.{Add}
use Rattle.dict_source.specs.declared.operators.ReadOp.{ReadOp}
use Rattle.dict_source.specs.declared.operators.ReadOp.TheVariants.{CollectionSum, Dependency}
use Rattle.dict_source.specs.Tree.{Source, many, no_trees, read, tree}
use Rattle.dict_source.specs.Facts.{Fact, Stated, scalar, writable_list}
use Rattle.dict_source.specs.Dictionary.{Dictionary as Tree}
use Rattle.dep_index.specs.Noting.{with_facts}
use Rattle.dep_index.specs.declared.readers_of.ReaderOf.{ReaderOf}

abbrev fact : FactPath → Stated → Option Source → Fact
fact path stated main = record {
  path_text = fact_path_text path;
  path = Some path;
  stated = stated;
  limits = [];
  main = main;
  conditional = None;
  placeholder = None;
  description = None;
}

abbrev reads : ReadOp → UsePath → Source
reads op path = read (op, record { text = use_path_text path; path = Some path })

-- a collection with a field, a fact of its members that adds the field and its sum up, one that only takes the field over,
-- and the sum of these
abbrev dictionary : Tree
dictionary = record {
  enums = [];
  tables = [];
  facts =
      fact (facts.Global (codes "c")) writable_list None
      ∷ fact (facts.Member (codes "c") (codes "n")) (scalar types.Int) None
      ∷ fact (facts.Member (codes "c") (codes "both")) (scalar types.Int) (Some (many Add (tree (reads Dependency (uses.Sibling (codes "n"))) (tree (reads CollectionSum (uses.Each (codes "c") (codes "n"))) no_trees))))
      ∷ fact (facts.Member (codes "c") (codes "own")) (scalar types.Int) (Some (reads Dependency (uses.Sibling (codes "n"))))
      ∷ fact (facts.Global (codes "sum")) (scalar types.Int) (Some (reads CollectionSum (uses.Each (codes "c") (codes "own"))))
      ∷ [];
}

abbrev readers : ℕ → List ReaderOf
readers n = with_facts dictionary n [] (1 ∷ 2 ∷ 3 ∷ 4 ∷ 5 ∷ [])

abbrev of : ℕ → Bool → ReaderOf
of n same = record { fact = n; same = same }

the_collection : readers 1 ≡ of 3 false ∷ of 5 false ∷ []
the_collection = refl

-- one reader mentions the field twice, once of the same member and once not
the_field : readers 2 ≡ of 3 false ∷ of 4 true ∷ []
the_field = refl

the_rest : (readers 3 ≡ []) × (readers 4 ≡ of 5 false ∷ []) × (readers 5 ≡ [])
the_rest = (refl, refl, refl)
